use Rattle.table_changes.proofs.EndLaws.{none_ends}
use Rattle.table_changes.proofs.tables.TableWorldWorld.forget.Goals as goal

pub returns-clause-fewer : goal.returns-clause-fewer
returns-clause-fewer c = λ kept t end h is. absurd (none_ends c.args.self.now kept t c.args._owner.now end is)
