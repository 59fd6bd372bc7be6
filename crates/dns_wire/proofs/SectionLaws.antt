-- Reading a section gives the items that are there, and the first fault where one doesn't.
use Rattle.std.proofs.Common.{◌≡◌, ℕ, zero, suc, ◌≤◌, List, [], ◌∷◌, ◌++◌, Result, Ok, Err, refl, sym, ◌∙◌, append_assoc, arith}
use Rattle.std.specs.Prelude.{MatchResult}
use Rattle.std.proofs.lemmas.List.{append-nil}
use Rattle.dns_wire.specs.declared.fault.WireFault.{WireFault}
use Rattle.dns_name.specs.Results.{◌>>=◌}
use Rattle.dns_wire.specs.Read.Section.{SectionAt, no_items, one_more, SectionFails, here, later, section_after, section_read}

-- A reader of an item that keeps to the octets: it gives what is there, and the first fault where nothing does.
pub record IsReader {A : Type 0} (end : ℕ) (item_at : ℕ → A → ℕ → Type 0) (item_fails : ℕ → WireFault → Type 0) (read : ℕ → Result (A × ℕ) WireFault) : Type 0 where
  pub stands : (at after : ℕ) (item : A) → at ≤ end → item_at at item after → read at ≡ Ok (item, after)
  pub fails : (at : ℕ) (fault : WireFault) → at ≤ end → item_fails at fault → read at ≡ Err fault
  pub matches : (at : ℕ) → at ≤ end → MatchResult (read at) (λ x. item_at at x.0 x.1) (λ e. item_fails at e)
  pub within : (at after : ℕ) (item : A) → item_at at item after → after ≤ end

module _ {A : Type 0} (end : ℕ) (item_at : ℕ → A → ℕ → Type 0) (item_fails : ℕ → WireFault → Type 0) (read : ℕ → Result (A × ℕ) WireFault) (reader : IsReader end item_at item_fails read) where
  pub section_within : {count at after : ℕ} {items : List A} → at ≤ end → SectionAt item_at count at items after → after ≤ end
  section_within within (no_items is) = omega arith
  section_within within (one_more {at = at} {next = next} {item = item} one rest) = section_within (reader.within at next item one) rest

  after_stands : (before : List A) {count at after : ℕ} {items : List A} → at ≤ end → SectionAt item_at count at items after → section_after read before count at ≡ Ok (before ++ items, after)
  unfolding section_after
  after_stands before within (no_items is) = rw (append-nil before, is) refl
  after_stands before within (one_more {at = at} {next = next} {item = item} {items = items} one rest) =
      let more = after_stands (before ++ item ∷ []) (reader.within at next item one) rest in
      rw (reader.stands at next item within one, more, append_assoc before (item ∷ []) items) refl

  after_fails : (before : List A) {count at : ℕ} {fault : WireFault} → at ≤ end → SectionFails item_at item_fails count at fault → section_after read before count at ≡ Err fault
  unfolding section_after
  after_fails before within (here {at = at} {fault = fault} one) = rw (reader.fails at fault within one) refl
  after_fails before within (later {at = at} {next = next} {item = item} one rest) =
      let more = after_fails (before ++ item ∷ []) (reader.within at next item one) rest in
      rw (reader.stands at next item within one, more) refl

  -- what is there is read
  pub section_read-stands : {count at after : ℕ} {items : List A} → at ≤ end → SectionAt item_at count at items after → section_read read count at ≡ Ok (items, after)
  section_read-stands within h = after_stands [] within h

  -- the first fault is told
  pub section_read-fails : {count at : ℕ} {fault : WireFault} → at ≤ end → SectionFails item_at item_fails count at fault → section_read read count at ≡ Err fault
  section_read-fails within h = after_fails [] within h

  -- the items after those before
  pub record Adds (before : List A) (count at : ℕ) (x : List A × ℕ) : Type 0 where
    pub items : List A
    pub is : x.0 ≡ before ++ items
    pub stands : SectionAt item_at count at items x.1

  after_match_by : (before : List A) (count at : ℕ) (r : Result (A × ℕ) WireFault) → MatchResult r (λ x. item_at at x.0 x.1) (λ e. item_fails at e) → ((x : A × ℕ) → item_at at x.0 x.1 → MatchResult (section_after read (before ++ x.0 ∷ []) count x.1) (λ y. Adds (before ++ x.0 ∷ []) count x.1 y) (λ e. SectionFails item_at item_fails count x.1 e)) → MatchResult (r >>= λ item. section_after read (before ++ item.0 ∷ []) count item.1) (λ y. Adds before (suc count) at y) (λ e. SectionFails item_at item_fails (suc count) at e)
  after_match_by before count at (Err e) one rest = here one
  after_match_by before count at (Ok x) one rest = added before count at x one (section_after read (before ++ x.0 ∷ []) count x.1) (rest x one)
    where
      added : (before : List A) (count at : ℕ) (x : A × ℕ) → item_at at x.0 x.1 → (r : Result (List A × ℕ) WireFault) → MatchResult r (λ y. Adds (before ++ x.0 ∷ []) count x.1 y) (λ e. SectionFails item_at item_fails count x.1 e) → MatchResult r (λ y. Adds before (suc count) at y) (λ e. SectionFails item_at item_fails (suc count) at e)
      added before count at x one (Ok y) h = record { items = x.0 ∷ h.items; is = h.is ∙ append_assoc before (x.0 ∷ []) h.items; stands = one_more one h.stands }
      added before count at x one (Err e) h = later one h

  after_match : (before : List A) (count at : ℕ) → at ≤ end → MatchResult (section_after read before count at) (λ y. Adds before count at y) (λ e. SectionFails item_at item_fails count at e)
  unfolding section_after
  after_match before zero at within = record { items = []; is = sym (append-nil before); stands = no_items refl }
  after_match before (suc count) at within =
      after_match_by before count at (read at) (reader.matches at within) (λ x one. after_match (before ++ x.0 ∷ []) count x.1 (reader.within at x.1 x.0 one))

  nothing_before : (count at : ℕ) (r : Result (List A × ℕ) WireFault) → MatchResult r (λ y. Adds [] count at y) (λ e. SectionFails item_at item_fails count at e) → MatchResult r (λ y. SectionAt item_at count at y.0 y.1) (λ e. SectionFails item_at item_fails count at e)
  nothing_before count at (Ok y) h = rw h.is h.stands
  nothing_before count at (Err e) h = h

  -- what is read is there, and a fault is the first
  pub section_read-match : (count at : ℕ) → at ≤ end → MatchResult (section_read read count at) (λ y. SectionAt item_at count at y.0 y.1) (λ e. SectionFails item_at item_fails count at e)
  section_read-match count at within = nothing_before count at (section_after read [] count at) (after_match [] count at within)
