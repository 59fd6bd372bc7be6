-- A section of a message (RFC 1035, section 4.1): as many items as the header counts, one after another.
use Rattle.std.specs.Prelude.{◌≡◌, ℕ, zero, suc, List, [], ◌∷◌, ◌++◌, Result, Ok}
use Rattle.dns_wire.specs.declared.fault.WireFault.{WireFault}
use Rattle.dns_name.specs.Results.{◌>>=◌}

-- From a place on are this many items, each by the relation of place, item and place after it. `after` follows the last.
pub data SectionAt {A : Type 0} (item_at : ℕ → A → ℕ → Type 0) : ℕ → ℕ → List A → ℕ → Type 0 where
  no_items : {at after : ℕ} → after ≡ at → SectionAt item_at zero at [] after
  one_more : {count at next after : ℕ} {item : A} {items : List A} → item_at at item next
      → SectionAt item_at count next items after → SectionAt item_at (suc count) at (item ∷ items) after

-- One of this many items has this fault, and those before it are valid.
pub data SectionFails {A : Type 0} (item_at : ℕ → A → ℕ → Type 0) (item_fails : ℕ → WireFault → Type 0) : ℕ → ℕ → WireFault → Type 0 where
  here : {count at : ℕ} {fault : WireFault} → item_fails at fault → SectionFails item_at item_fails (suc count) at fault
  later : {count at next : ℕ} {item : A} {fault : WireFault} → item_at at item next
      → SectionFails item_at item_fails count next fault → SectionFails item_at item_fails (suc count) at fault

-- the items before, and this many more from a place on
unfoldable pub section_after : {A : Type 0} → (ℕ → Result (A × ℕ) WireFault) → List A → ℕ → ℕ → Result (List A × ℕ) WireFault
section_after read before zero at = Ok (before, at)
section_after read before (suc more) at = read at >>= λ item. section_after read (before ++ item.0 ∷ []) more item.1

-- this many items from a place on, and the place after them
abbrev pub section_read : {A : Type 0} → (ℕ → Result (A × ℕ) WireFault) → ℕ → ℕ → Result (List A × ℕ) WireFault
section_read read count at = section_after read [] count at
