use Rattle.world_book.proofs.MarkLaws.{struck_after_strike, struck_after_restore}
use Rattle.world_book.proofs.laws.struck_law.Goals as goal

pub returns-clause-undo : goal.returns-clause-undo
returns-clause-undo c = struck_after_strike

pub returns-clause-redo : goal.returns-clause-redo
returns-clause-redo c = struck_after_restore
