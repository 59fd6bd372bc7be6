use Rattle.std.proofs.Common.{List, ap, ◌∙◌}
use Rattle.std.specs.Prelude.{fold}
use Rattle.std.proofs.lemmas.List.{take_all}
use Rattle.history.specs.OldestFound.{later_end}
use Rattle.undo_book.specs.declared.oldest.ScopeEnd.{ScopeEnd}
use Rattle.undo_book.specs.Ends.{end_now, pair_of}
use Rattle.undo_book.proofs.EndsLaws.{fold_known}
use Rattle.undo_book.proofs.oldest.last_end.Goals as goal

pub returns : goal.returns
returns c =
    let ends = c.args.ends.now in
    let name = c.args.name.now in
    c.loop-end.invariant
    ∙ ap (λ (l : List ScopeEnd). fold (λ last end. later_end name last (pair_of (end_now end))) 0 l) (take_all c.loop-end.end-index ends c.loop-end-test.false)
    ∙ fold_known (later_end name) ends 0
