use Rattle.std.proofs.Common.{arith}
use Rattle.local_zone.specs.CountsBelow.{count_under}
use Rattle.local_zone.proofs.Keyed.{spelled}
use Rattle.local_zone.proofs.SumLaws.{none_yet, sum_all}
use Rattle.local_zone.proofs.counts_below.raise_all.Goals as goal

pub loop-i-init : goal.loop-i-init
loop-i-init c = record {
  count = λ other. omega (arith, none_yet spelled c.args.more.now.entries other);
  above_zero = λ h. h;
}

pub loop-i-preserved : goal.loop-i-preserved
loop-i-preserved c = record {
  count = λ other. c.in_default.ensures.ok other (count_under spelled other c.args.counts.now.entries) (c.loop-i.invariant.count other);
  above_zero = λ h. c.in_default.ensures.above_zero (c.loop-i.invariant.above_zero h);
}

pub returns-in-Err-clause-err : goal.returns-in-Err-clause-err
returns-in-Err-clause-err c other = omega (arith, c.lower_first.ensures.count other, c.in-Err.ensures.err other, c.loop-i.invariant.count other)

pub returns-in-Err-clause-above_zero : goal.returns-in-Err-clause-above_zero
returns-in-Err-clause-above_zero c h = c.lower_first.ensures.above_zero (c.in-Err.ensures.above_zero (c.loop-i.invariant.above_zero h))

pub returns-clause-ok : goal.returns-clause-ok
returns-clause-ok c other = omega (arith, c.loop-i.invariant.count other, sum_all spelled c.args.more.now.entries c.loop-i.i other (omega (arith, c.len-i-end.ensures.len)))
