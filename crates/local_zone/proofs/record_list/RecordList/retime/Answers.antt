use Rattle.std.proofs.Common.{◌≡◌, List, map, not, ◌&&◌, ◌==◌, ap, sym, subst, ◌∙◌}
use Rattle.std.specs.List.{list_any}
use Rattle.std.specs.Vec.{with_items}
use Rattle.std.proofs.lemmas.List.{with_items_is}
use Rattle.dns_text.specs.declared.record.Record.{Record}
use Rattle.local_zone.specs.Change.{retimed_by}
use Rattle.local_zone.specs.CountsBelow.{AreCounted, lies_below}
use Rattle.local_zone.specs.Index.{IsGrouped}
use Rattle.local_zone.specs.Tables.{is_of_set}
use Rattle.local_zone.proofs.CountsBelowLaws.{counted_retimed}
use Rattle.local_zone.proofs.RetimeLaws.{same-times}
use Rattle.local_zone.proofs.Keyed.{items, octets}
use Rattle.local_zone.proofs.record_list.RecordList.retime.Goals as goal

pub returns-else-has_other_ttl : goal.returns-else-has_other_ttl
returns-else-has_other_ttl c =
    let new : Record = record c.args.set.now { ttl = c.args.ttl } in
    let none = ap (λ (rs : List Record). list_any (λ r. is_of_set r new && not (r.ttl == new.ttl)) rs) (sym c.set_of.ensures) ∙ sym c.has_other_ttl.ensures ∙ c.if-has_other_ttl.false in
    sym (same-times new c.args.self.now none)

pub invariant_of-self : goal.invariant_of-self
invariant_of-self c =
    let new : Record = record c.args.set.now { ttl = c.args.ttl } in
    let is : (with_items c.self.inside.list c.retime_each.new.records).items ≡ map (retimed_by new) c.self.inside.list.items
    = with_items_is c.self.inside.list c.retime_each.new.records (c.retime_each.auto.records ∙ c.as_mut_slice.ensures.len) ∙ c.retime_each.ensures ∙ ap (λ (rs : List Record). map (retimed_by new) rs) c.as_mut_slice.ensures.value in (
      subst (λ (rs : List Record). IsGrouped octets items rs c.retime_index.new.owners.entries) (sym is) (c.retime_index.ensures c.self.inside.list.items c.self.invariant.0),
      subst (λ (rs : List Record). AreCounted rs c.self.inside.below) (sym is) (counted_retimed lies_below c.self.inside.list.items new c.self.inside.below c.self.invariant.1),
    )
