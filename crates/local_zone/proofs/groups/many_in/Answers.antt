use Rattle.std.proofs.Common.{Some, None, refl, sym, ◌∙◌}
use Rattle.dns_name.specs.Labels.{octets_of}
use Rattle.local_zone.proofs.IndexLaws.{of-found}
use Rattle.local_zone.proofs.Keyed.{items, octets}
use Rattle.local_zone.proofs.groups.many_in.Goals as goal

pub returns-in-Some : goal.returns-in-Some
returns-in-Some c records h =
    let owner = c.args.owner.now in
    let held = of-found octets items records c.args.owners.now.entries owner (octets_of owner) (Some c.in-Some.group.now) h refl (sym c.in-Some.ensures.value) in
    c.len.ensures ∙ held.count

pub returns-in-None : goal.returns-in-None
returns-in-None c records h =
    let owner = c.args.owner.now in
    (of-found octets items records c.args.owners.now.entries owner (octets_of owner) None h refl (sym c.in-None.ensures.value)).count
