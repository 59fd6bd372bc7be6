use Rattle.history.proofs.JournalLaw.{held_ascend, done_are_held, undone_are_held}
use Rattle.history.proofs.laws.journal_law.Goals as goal

pub returns-clause-order : goal.returns-clause-order
returns-clause-order c = held_ascend

pub returns-clause-done : goal.returns-clause-done
returns-clause-done c = done_are_held

pub returns-clause-undone : goal.returns-clause-undone
returns-clause-undone c = undone_are_held
