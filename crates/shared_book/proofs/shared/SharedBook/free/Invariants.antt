use Rattle.std.proofs.Common.{◌≡◌, List, length, true}
use Rattle.shared_book.specs.Kept.{IsTurnForThere}
use Rattle.shared_book.proofs.shared.SharedBook.free.Given as goal

-- so many turns were taken, after each of which another one was wanted
abbrev pub invariant-loop-taken : goal.invariant-loop-taken
invariant-loop-taken g l =
    let b = g.B.Book in
    (turns : List (IsTurnForThere b.stands_for b.settings b.stored b.unswept g.L.CallLedger.settings l.fn.whole true)) × (length turns ≡ l._taken)
