use Rattle.std.proofs.Common.{◌-◌, List, cond, ap, sym, subst, ◌∙◌}
use Rattle.dns_text.specs.declared.record.Record.{Record}
use Rattle.dns_name.specs.Labels.{Labels}
use Rattle.local_zone.specs.CountsBelow.{counted, is_below, AreCounted, lies_below}
use Rattle.local_zone.specs.Index.{IsGrouped}
use Rattle.local_zone.proofs.CountsBelowLaws.{counted_pop}
use Rattle.local_zone.proofs.Keyed.{items, octets}
use Rattle.local_zone.proofs.record_list.RecordList.pop.Goals as goal

pub invariant_of-self : goal.invariant_of-self
invariant_of-self c =
    let front : List Record = c.pop.new.self.items in
    let last : Record = c.in-Some.last in (
      c.unindex_last.ensures front last (sym c.owner.ensures) (sym c.kind.ensures) (subst (λ (rs : List Record). IsGrouped octets items rs c.self.inside.owners.entries) c.in-Some.ensures.items c.self.invariant.0),
      counted_pop lies_below front last c.self.inside.below c.remove.new.self (subst (λ (rs : List Record). AreCounted rs c.self.inside.below) c.in-Some.ensures.items c.self.invariant.1)
          (λ name. c.remove.ensures name ∙ ap (λ (o : Labels). counted name c.self.inside.below - cond (is_below o name) 1 0) c.owner-in-Some.ensures),
    )
