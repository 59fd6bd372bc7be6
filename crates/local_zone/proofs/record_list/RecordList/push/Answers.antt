use Rattle.std.proofs.Common.{◌≡◌, ◌+◌, ◌-◌, List, [], ◌∷◌, ◌++◌, cond, ap, sym, subst, ◌∙◌}
use Rattle.dns_name.specs.Labels.{Labels}
use Rattle.dns_text.specs.declared.record.Record.{Record}
use Rattle.local_zone.specs.CountsBelow.{counted, is_below, AreCounted, lies_below}
use Rattle.local_zone.specs.Index.{IsGrouped}
use Rattle.local_zone.proofs.CountsBelowLaws.{counted_push, counted_undone}
use Rattle.local_zone.proofs.Keyed.{items, octets}
use Rattle.local_zone.proofs.record_list.RecordList.push.Goals as goal

pub invariant_of-self-in-Err-1 : goal.invariant_of-self-in-Err-1
invariant_of-self-in-Err-1 c =
    let list : List Record = c.self.inside.list.items in (
      subst (λ (rs : List Record). IsGrouped octets items rs c.index_last.new.owners.entries) (sym c.in_ok-reserve.ensures.items) (c.in-Err.ensures.err list c.self.invariant.0),
      subst (λ (rs : List Record). AreCounted rs c.remove.new.self) (sym c.in_ok-reserve.ensures.items)
          (counted_undone lies_below list c.args.new c.self.inside.below c.add.new.self c.remove.new.self c.self.invariant.1
          (λ name. c.in_ok-add.ensures.ok name ∙ ap (λ (o : Labels). counted name c.self.inside.below + cond (is_below o name) 1 0) c.owner.ensures)
          (λ name. c.remove.ensures name ∙ ap (λ (o : Labels). counted name c.add.new.self - cond (is_below o name) 1 0) c.owner-in-Err.ensures)),
    )

pub invariant_of-self-in-Ok : goal.invariant_of-self-in-Ok
invariant_of-self-in-Ok c =
    let list : List Record = c.self.inside.list.items in
    let is : c.push_reserved.new.self.items ≡ list ++ c.args.new ∷ [] = c.push_reserved.ensures.items ∙ ap (λ (rs : List Record). rs ++ c.args.new ∷ []) c.in_ok-reserve.ensures.items in
    let twin : c.push_reserved.new.self.items ≡ list ++ c.in_ok-twin.twin ∷ [] = is ∙ ap (λ (r : Record). list ++ r ∷ []) (sym c.in_ok-twin.ensures) in (
      subst (λ (rs : List Record). IsGrouped octets items rs c.index_last.new.owners.entries) (sym twin) (c.in-Ok.ensures.ok list c.self.invariant.0),
      subst (λ (rs : List Record). AreCounted rs c.add.new.self) (sym is)
          (counted_push lies_below list c.args.new c.self.inside.below c.add.new.self c.self.invariant.1
          (λ name. c.in_ok-add.ensures.ok name ∙ ap (λ (o : Labels). counted name c.self.inside.below + cond (is_below o name) 1 0) c.owner.ensures)),
    )
