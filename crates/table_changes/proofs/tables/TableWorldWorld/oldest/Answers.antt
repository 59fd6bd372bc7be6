use Rattle.table_changes.proofs.EndLaws.{none_ends}
use Rattle.table_changes.proofs.tables.TableWorldWorld.oldest.Goals as goal

pub returns-clause-none : goal.returns-clause-none
returns-clause-none c = λ kept h current. none_ends c.args.self.now kept c.args._moment
