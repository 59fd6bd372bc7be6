use Rattle.std.proofs.Common.{◌∙◌}
use Rattle.std.proofs.lemmas.Bool.{lt-ltb}
use Rattle.local_zone.proofs.OtherSetLaws.{with_none, with_some}
use Rattle.local_zone.proofs.own_records.has_with.Goals as goal

pub returns-then-count-gt0 : goal.returns-then-count-gt0
returns-then-count-gt0 c records is = lt-ltb 0 c.args.count c.if-count-gt0.true ∙ with_some c.args.owner.now c.args.new.now records c.args.count is c.if-count-gt0.true

pub returns-else-count-gt0 : goal.returns-else-count-gt0
returns-else-count-gt0 c records is = c.eq.ensures ∙ with_none c.args.owner.now c.args.new.now records c.args.count is c.if-count-gt0.false
