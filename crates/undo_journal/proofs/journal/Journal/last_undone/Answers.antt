use Rattle.std.proofs.Common.{rules, ◌≡◌, ◌∙◌, Some, None, refl, sym, ap, subst}
use Rattle.std.specs.Prelude.{slice_get, option_map}
use Rattle.std.specs.Option.{option_copied}
use Rattle.undo_journal.specs.Journal.{AreChanges, Changes, last_of}
use Rattle.undo_journal.proofs.ReachLaws.{last_can_be_redone}
use Rattle.undo_journal.proofs.journal.Journal.last_undone.Goals as goal

pub returns-in-Some-place_of-clause-some : goal.returns-in-Some-place_of-clause-some
returns-in-Some-place_of-clause-some g c =
    let table = g.C.World.World.table in
    let ticket = c.in-Some.ticket.now in
    let is = c.in-Some-place_of.ensures.some in
    let last : last_of c.self.inside.undone.items ≡ Some ticket = ap (λ l. last_of l) (sym c.deref.ensures.value) ∙ (sym c.last.ensures.value ∙ ap (λ o. option_copied o) c.in-Some.is) in
    let last' : last_of c.args.self.now.undone ≡ Some ticket = subst (λ (x : Changes _). last_of x.undone ≡ Some ticket) c.self.view_is last in
    let are = subst (λ (x : Changes _). AreChanges table x) c.self.view_is c.self.invariant.0 in (
      last_can_be_redone table c.args.self.now ticket c.in-Some-place_of.place is.here are last' is.there is.own,
      ap (λ o. option_map (λ k. k.ticket) o) is.there ∙ ap (λ n. Some n) is.own ∙ sym last',
    )
