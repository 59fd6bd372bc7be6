use Rattle.std.proofs.Common.{◌≡◌, List, map, ap, sym, subst, ◌∙◌}
use Rattle.std.specs.Vec.{with_items}
use Rattle.std.proofs.lemmas.List.{with_items_is}
use Rattle.dns_text.specs.declared.record.Record.{Record}
use Rattle.local_zone.specs.Change.{retimed_by}
use Rattle.local_zone.specs.Sets.{AreInOrder}
use Rattle.local_zone.proofs.OrderLaws.{order_retimed}
use Rattle.local_zone.proofs.sets.Sets.retime.Goals as goal

pub invariant_of-self : goal.invariant_of-self
invariant_of-self c =
    let new : Record = record c.args.set.now { ttl = c.args.ttl } in
    let is : (with_items c.self.inside.records c.retime_each.new.records).items ≡ map (retimed_by new) c.self.inside.records.items
    = with_items_is c.self.inside.records c.retime_each.new.records (c.retime_each.auto.records ∙ c.as_mut_slice.ensures.len) ∙ c.retime_each.ensures ∙ ap (λ (rs : List Record). map (retimed_by new) rs) c.as_mut_slice.ensures.value in
    subst AreInOrder (sym is) (order_retimed new c.self.inside.records.items c.self.invariant)
