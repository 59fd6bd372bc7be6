use Rattle.std.proofs.lemmas.Bool.{false≢true}
use Rattle.table_changes.proofs.tables.TableWorldWorld.sweep.Goals as goal

pub returns-clause-needed : goal.returns-clause-needed
returns-clause-needed c = λ kept h pair has. absurd (false≢true has)
