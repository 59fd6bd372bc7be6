use Rattle.history.proofs.RedoLaw.{stands_again, puts_back}
use Rattle.history.proofs.laws.redo_puts_back.Goals as goal

pub returns-clause-command : goal.returns-clause-command
returns-clause-command c = stands_again

pub returns-clause-undo : goal.returns-clause-undo
returns-clause-undo c = puts_back
