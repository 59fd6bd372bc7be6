use Rattle.std.proofs.Common.{ℕ, List, length, sym, ap, ◌∙◌, arith}
use Rattle.streams.proofs.Held.{held-more, held-full}
use Rattle.streams.proofs.held_line.HeldLine.push.Goals as goal

pub returns-then-len-lt-MOST_HELD : goal.returns-then-len-lt-MOST_HELD
returns-then-len-lt-MOST_HELD c =
    rw (sym c.self.view_is) (c.push.ensures.items ∙ held-more _ c.args.octet (omega (arith, c.len.ensures.value, c.if-len-lt-MOST_HELD.true)))

pub returns-else-len-lt-MOST_HELD : goal.returns-else-len-lt-MOST_HELD
returns-else-len-lt-MOST_HELD c =
    held-full _ c.args.octet (omega (arith, c.len.ensures.value, c.len.ensures.fits, c.if-len-lt-MOST_HELD.false, ap (λ (l : List ℕ). length l) c.self.view_is))
