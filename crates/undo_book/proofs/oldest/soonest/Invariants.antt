use Rattle.std.proofs.Common.{◌≡◌, None, take}
use Rattle.std.specs.Prelude.{fold}
use Rattle.std.specs.Option.{option_map}
use Rattle.history.specs.OldestFound.{sooner_of}
use Rattle.undo_book.specs.Ends.{end_now, ends_now, pair_of, pairs_of}
use Rattle.undo_book.proofs.oldest.soonest.Given as goal

-- the soonest of the names so far
abbrev pub invariant-loop-end : goal.invariant-loop-end
invariant-loop-end l =
    option_map (λ name. name.now) l.found ≡ fold (λ found end. sooner_of (pairs_of (ends_now l.ends)) found (pair_of (end_now end)).0) None (take l.end-index l.ends)
