use Rattle.std.proofs.Common.{ℕ, List, cond, ap, sym, arith, nat_eq}
use Rattle.std.specs.Cmp.Lexicographic.{pointwise}
use Rattle.std.proofs.lemmas.Bool.{false≢true}
use Rattle.local_zone.proofs.CountsBelowLaws.{on_ok}
use Rattle.local_zone.proofs.Keyed.{spelled}
use Rattle.local_zone.proofs.SumLaws.{sum_step}
use Rattle.local_zone.proofs.counts_below.raise_at.Goals as goal

pub raise-requires : goal.raise-requires
raise-requires c = c.requires.above_zero c.in-Some.octets.now.items c.in-Some.count.now c.in-Some.ensures.value

pub returns-in-Some-clause-ok : goal.returns-in-Some-clause-ok
returns-in-Some-clause-ok c =
    let n = c.in-Some.count.now in
    on_ok c.raise.result
    (λ more other start h.
    let step = sum_step spelled c.args.more.now.entries c.args.place c.in-Some.octets.now n other c.len-all.ensures.unique (sym c.in-Some.ensures.entry) in
    let key = ap {B = ℕ} (λ (s : List ℕ). cond (pointwise nat_eq s other) n 0) c.as_slice.ensures.value in
    omega (arith, more other, step, key, h))
    c.raise.ensures.ok

pub returns-in-None-clause-ok : goal.returns-in-None-clause-ok
returns-in-None-clause-ok c other start h = absurd (false≢true (c.in-None.ensures.found.1 c.requires.place))
