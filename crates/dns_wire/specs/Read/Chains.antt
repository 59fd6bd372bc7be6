-- Chains of pointers (RFC 1035, section 4.1.4), for contracts inside the crate: each points back, to the place of the next.
use Rattle.std.specs.Prelude.{◌≡◌, ℕ, ◌-◌, ◌<◌, List, get_or}
use Rattle.dns_name.specs.Labels.{Labels}
use Rattle.dns_wire.specs.declared.limits.TheConstants.{HEADER_OCTETS}
use Rattle.dns_wire.specs.declared.read.place.Next.TheVariants.{Pointer}
use Rattle.dns_wire.specs.Read.Place.{next_at}
use Rattle.dns_wire.specs.Read.Name.{SpelledName}

-- Pointers lead from a place to another, or both are the same place.
pub data PointersLead (m : List ℕ) : ℕ → ℕ → Type 0 where
  there : {at end : ℕ} → end ≡ at → PointersLead m at end
  back : {at to end : ℕ} → next_at m at ≡ Pointer to → to < at → PointersLead m to end → PointersLead m at end

-- A list has for a place either 0 or one more than a place to which pointers lead from there.
abbrev pub IsNotedAt : List ℕ → List ℕ → ℕ → Type 0
IsNotedAt m ends at = 0 < get_or ends at 0 → PointersLead m at (get_or ends at 0 - 1)

-- The list has such a value for each place.
pub record AreEnds (m ends : List ℕ) : Type 0 where
  pub noted : (at : ℕ) → IsNotedAt m ends at

-- Right after the header is this name, that of the first question.
pub record IsFirstName (m : List ℕ) (name : Labels) : Type 0 where
  pub after : ℕ
  pub spelled : SpelledName m HEADER_OCTETS after name
