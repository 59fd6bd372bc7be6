use Rattle.std.proofs.Common.{◌∙◌}
use Rattle.std.proofs.lemmas.Bool.{lt-ltb}
use Rattle.local_zone.proofs.OtherSetLaws.{back_comes, back_has}
use Rattle.local_zone.proofs.own_records.has_back.Goals as goal

pub returns-then-count-gt0 : goal.returns-then-count-gt0
returns-then-count-gt0 c records is = lt-ltb 0 c.args.count c.if-count-gt0.true ∙ back_has c.args.owner.now c.args.removed.now records c.args.count is c.if-count-gt0.true

pub returns-else-count-gt0 : goal.returns-else-count-gt0
returns-else-count-gt0 c records is = back_comes c.args.owner.now c.args.removed.now records c.args.count is c.if-count-gt0.false c.count_of.result c.count_of.ensures
