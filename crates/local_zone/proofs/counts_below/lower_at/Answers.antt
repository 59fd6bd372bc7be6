use Rattle.std.proofs.Common.{ℕ, List, cond, ap, sym, arith, nat_eq}
use Rattle.std.specs.Cmp.Lexicographic.{pointwise}
use Rattle.std.proofs.lemmas.Bool.{false≢true}
use Rattle.local_zone.proofs.Keyed.{spelled}
use Rattle.local_zone.proofs.SumLaws.{sum_step}
use Rattle.local_zone.proofs.counts_below.lower_at.Goals as goal

pub returns-in-Some-clause-count : goal.returns-in-Some-clause-count
returns-in-Some-clause-count c other whole h =
    let n = c.in-Some.count.now in
    let step = sum_step spelled c.args.less.now.entries c.args.place c.in-Some.octets.now n other c.len-all.ensures.unique (sym c.in-Some.ensures.entry) in
    let key = ap {B = ℕ} (λ (s : List ℕ). cond (pointwise nat_eq s other) n 0) c.as_slice.ensures.value in
    omega (arith, c.lower.ensures.count other, step, key, h)

pub returns-in_default-clause-count : goal.returns-in_default-clause-count
returns-in_default-clause-count c other whole h = absurd (false≢true (c.in_default.ensures.found.1 c.requires))
