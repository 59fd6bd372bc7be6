use Rattle.std.proofs.lemmas.Bool.{false≢true}
use Rattle.table_changes.proofs.tables.TableWorldWorld.sweep_some.Goals as goal

pub returns-clause-needed : goal.returns-clause-needed
returns-clause-needed c = λ none kept h pair has. absurd (false≢true has)
