-- How the index sees a key and what is under it: a name as its octets, a group as its records.
use Rattle.std.proofs.Common.{◌≡◌, ℕ, List, [], ◌∷◌, length, Vec, Global, refl, arith}
use Rattle.dns_name.specs.Labels.{Labels, octets_of}
use Rattle.dns_text.specs.declared.record.Record.{Record}
use Rattle.local_zone.specs.declared.group.Group.{Group}
use Rattle.local_zone.specs.Group.{records_held}

abbrev pub octets : Labels → List ℕ
octets k = octets_of k

abbrev pub items : Group → List Record
items g = records_held g

-- a run of octets, as the counts have it for a key
abbrev pub spelled : Vec ℕ Global → List ℕ
spelled k = k.items

pub nothing : {X : Type 0} (xs : List X) → length xs ≡ 0 → xs ≡ []
nothing [] e = refl
nothing (x ∷ xs) e = absurd (omega (arith, e))
