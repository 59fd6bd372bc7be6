use Rattle.std.proofs.Common.{ℕ, cond, sym, ap, ◌∙◌, arith}
use Rattle.local_zone.proofs.other_counts.count_without.Goals as goal

pub returns-then-counts_for : goal.returns-then-counts_for
returns-then-counts_for c zoned =
    let test = ap {B = ℕ} (λ b. cond b c.args.many 0) (sym c.counts_for.ensures ∙ c.if-counts_for.true) in
    omega (arith, test, c.count_of-count.ensures c.args.zones.now zoned, c.saturating_sub.ensures)

pub returns : goal.returns
returns c zoned =
    let test = ap {B = ℕ} (λ b. cond b c.args.many 0) (sym c.counts_for.ensures ∙ c.if-counts_for.false) in
    omega (arith, test, c.count_of-count.ensures c.args.zones.now zoned)
