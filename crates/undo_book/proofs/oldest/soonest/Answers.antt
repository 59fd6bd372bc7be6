use Rattle.std.proofs.Common.{List, None, ap, ◌∙◌}
use Rattle.std.specs.Prelude.{fold}
use Rattle.std.proofs.lemmas.List.{take_all}
use Rattle.history.specs.OldestFound.{sooner_of}
use Rattle.undo_book.specs.declared.oldest.ScopeEnd.{ScopeEnd}
use Rattle.undo_book.specs.Ends.{end_now, ends_now, pair_of, pairs_of}
use Rattle.undo_book.proofs.EndsLaws.{fold_known}
use Rattle.undo_book.proofs.oldest.soonest.Goals as goal

pub returns : goal.returns
returns c =
    let ends = c.args.ends.now in
    let pairs = pairs_of (ends_now ends) in
    c.loop-end.invariant
    ∙ ap (λ (l : List ScopeEnd). fold (λ found end. sooner_of pairs found (pair_of (end_now end)).0) None l) (take_all c.loop-end.end-index ends c.loop-end-test.false)
    ∙ fold_known (λ found pair. sooner_of pairs found pair.0) ends None
