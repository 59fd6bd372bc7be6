use Rattle.std.proofs.Common.{ℕ, subst}
use Rattle.shared_book.specs.Kept.{IsSweepThere}
use Rattle.shared_book.proofs.seat.Seat.free.Goals as goal

pub returns : goal.returns
returns g c =
    let b = g.B.Book in
    let whole = c.args.self.now.is_thorough in
    subst (λ (most : ℕ). IsSweepThere b.stands_for b.settings b.stored b.unswept g.L.CallLedger.settings whole most) c.turns_for.ensures c.free.ensures
