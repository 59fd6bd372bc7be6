-- What is said of each part of a section is said of its records in order.
use Rattle.std.proofs.Common.{◌≡◌, ℕ, zero, suc, List, [], ◌∷◌, ◌++◌, Option, refl, ap, ◌∙◌}
use Rattle.std.specs.List.{flat_map, AllByRecursion}
use Rattle.std.proofs.lemmas.Grind.{flat_map-append}
use Rattle.dns_name.specs.Labels.{Labels}
use Rattle.dns_name.specs.ListLaws.{all-append, all_split}
use Rattle.dns_text.specs.declared.record.Record.{Record}
use Rattle.dns_wire.specs.declared.message.Classed.{Classed}
use Rattle.dns_wire.specs.Lent.{Parts, part_at, in_order}
use Rattle.dns_wire.specs.Write.Record.{record_octets, records_octets}

-- all records, where it holds of those of each part
pub all_in_order : (P : Classed Record → Type 0) (parts : Parts) → AllByRecursion (λ part. AllByRecursion P part) parts → AllByRecursion P (in_order parts)
all_in_order P [] h = tt
all_in_order P (part ∷ parts) h = all-append P part (in_order parts) h.0 (all_in_order P parts h.1)

-- the records of a part, where it holds of all
pub all_of_part : (P : Classed Record → Type 0) (parts : Parts) (i : ℕ) → AllByRecursion P (in_order parts) → AllByRecursion P (part_at parts i)
all_of_part P [] i h = tt
all_of_part P (part ∷ parts) zero h = (all_split P part (in_order parts) h).0
all_of_part P (part ∷ parts) (suc i) h = all_of_part P parts i (all_split P part (in_order parts) h).1

-- The octets of records in order are those of the parts.
pub octets_by_part : (first : Option Labels) (parts : Parts) → records_octets first (in_order parts) ≡ flat_map (λ part. records_octets first part) parts
octets_by_part first [] = refl
octets_by_part first (part ∷ parts) =
    flat_map-append (λ r. record_octets first r) part (in_order parts) ∙ ap (λ (octets : List ℕ). records_octets first part ++ octets) (octets_by_part first parts)
