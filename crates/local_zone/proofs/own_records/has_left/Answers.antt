use Rattle.std.proofs.Common.{sym, ◌∙◌, arith}
use Rattle.local_zone.specs.Gaps.{rest_of}
use Rattle.local_zone.proofs.OtherSetLaws.{left_has, left_without}
use Rattle.local_zone.proofs.own_records.has_left.Goals as goal

pub returns-then-count-eq0 : goal.returns-then-count-eq0
returns-then-count-eq0 c is = left_without c.args.owner.now c.args.gaps.now c.args.records.now c.requires.within (sym is ∙ c.if-count-eq0.true)

pub returns : goal.returns
returns c is =
    left_has c.args.owner.now c.is_taken.result (rest_of c.args.gaps.now c.args.records.now) c.args.records.now c.is_taken.ensures
    (omega (arith, is, c.if-count-eq0.false))
