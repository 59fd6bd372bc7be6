use Rattle.std.proofs.Common.{◌≡◌, ℕ, ap, arith, take}
use Rattle.local_zone.specs.CountsBelow.{count_under}
use Rattle.local_zone.proofs.Keyed.{spelled}
use Rattle.local_zone.proofs.SumLaws.{none_yet}
use Rattle.local_zone.proofs.counts_below.lower_first.Goals as goal

pub loop-i-init : goal.loop-i-init
loop-i-init c = record {
  count = λ other. omega (arith, none_yet spelled c.args.less.now.entries other);
  above_zero = λ h. h;
}

pub loop-i-preserved : goal.loop-i-preserved
loop-i-preserved c = record {
  count = λ other. c.lower_at.ensures.count other (count_under spelled other c.args.counts.now.entries) (c.loop-i.invariant.count other);
  above_zero = λ h. c.lower_at.ensures.above_zero (c.loop-i.invariant.above_zero h);
}

pub returns-clause-count : goal.returns-clause-count
returns-clause-count c other =
    let all : c.loop-i.i ≡ c.args.many = omega arith in
    omega (arith, c.loop-i.invariant.count other, ap {B = ℕ} (λ n. count_under spelled other (take n c.args.less.now.entries)) all)
