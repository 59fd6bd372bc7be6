use Rattle.std.proofs.Common.{◌≤◌, List, [], length, refl, sym, ap, ◌∙◌, subst}
use Rattle.std.specs.Prelude.{fold}
use Rattle.std.proofs.lemmas.List.{take_all}
use Rattle.history.specs.SoonestLaws.{AreEndings}
use Rattle.undo_book.specs.declared.log.Logged.{Logged}
use Rattle.undo_book.specs.Ends.{End, ends_after, pairs_of}
use Rattle.undo_book.specs.PlainPast.{past_in}
use Rattle.undo_book.proofs.EndsLaws.{are_endings}
use Rattle.undo_book.proofs.oldest.scope_ends.Goals as goal

pub returns : goal.returns
returns c =
    let past = past_in c.args.past.now in
    let log = c.args.past.now.log.items in
    let i = c.loop-logged.logged-index in
    let ended = subst (λ (l : List Logged). length l ≤ i) c.deref-logged-items.ensures.value c.loop-logged-test.false in
    let known = c.loop-logged.invariant ∙ ap (λ (l : List Logged). fold (ends_after past c.args.moment) [] l) (take_all i log ended) in
    subst (λ (es : List End). AreEndings past c.args.moment (pairs_of es)) (sym known) (are_endings past c.args.moment log refl)
