-- A turn after which another one is wanted is one more of those.
use Rattle.std.proofs.Common.{◌∷◌, Bool, arith, subst}
use Rattle.shared_book.specs.Kept.{IsTurnForThere}
use Rattle.shared_book.proofs.shared.SharedBook.free.Goals as goal

pub loop-taken-preserved : goal.loop-taken-preserved
loop-taken-preserved g c =
    let b = g.B.Book in
    let wanted = subst (λ (more : Bool). IsTurnForThere b.stands_for b.settings b.stored b.unswept g.L.CallLedger.settings c.args.whole more) c.if-not-turn.false c.turn.ensures in
    (wanted ∷ c.loop-taken.invariant.0, omega (arith, c.loop-taken.invariant.1))
