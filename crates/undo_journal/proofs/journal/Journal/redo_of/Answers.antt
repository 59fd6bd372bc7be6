use Rattle.dns_name.specs.ListLaws.{all_weaker}
use Rattle.undo_journal.proofs.journal.Journal.redo_of.Goals as goal

pub returns-clause-free : goal.returns-clause-free
returns-clause-free g c = λ none. c.turn_of.ensures.free (all_weaker _ _ (λ k free own stands. free own) c.args.self.now.kept none)
