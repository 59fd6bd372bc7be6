use Rattle.std.proofs.Common.{◌≡◌, map, Some, None, ap, sym, subst, nat_eq}
use Rattle.std.specs.Map.{set_value}
use Rattle.std.specs.Cmp.Lexicographic.{pointwise}
use Rattle.dns_name.specs.Labels.{octets_of}
use Rattle.dns_text.specs.declared.record.Record.{Record}
use Rattle.local_zone.specs.Index.{under, IsGrouped}
use Rattle.local_zone.specs.Change.{retimed_by}
use Rattle.local_zone.proofs.RetimeLaws.{grouped-retime, grouped-no-set}
use Rattle.local_zone.proofs.Keyed.{items, octets}
use Rattle.local_zone.proofs.record_list.retime_index.Goals as goal

pub returns-in-Some : goal.returns-in-Some
returns-in-Some c records h =
    let es = c.args.owners.now.entries in
    let new : Record = record c.args.set.now { ttl = c.args.ttl } in
    let found : under octets (octets_of new.owner) es ≡ Some c.in-Some.group.now = sym c.in-Some.ensures.value in
    let w = c.retime.new.self in
    let entries : (c.get_mut.follows.lender w).entries ≡ set_value (λ k. pointwise nat_eq (octets_of new.owner) (octets k)) es w =
    (c.get_mut.follows.holds w).0 in
    subst (λ x. IsGrouped octets items (map (retimed_by new) records) x) (sym entries) (grouped-retime octets items records es new c.in-Some.group.now w h found c.retime.ensures)

pub returns-in_default : goal.returns-in_default
returns-in_default c records h =
    let es = c.args.owners.now.entries in
    let new : Record = record c.args.set.now { ttl = c.args.ttl } in
    let none : under octets (octets_of new.owner) es ≡ None = sym c.in_default.ensures.value in
    subst (λ x. IsGrouped octets items (map (retimed_by new) records) x) (sym (ap (λ m. m.entries) c.get_mut.follows.holds-at-none)) (grouped-no-set octets items records es new h none)
