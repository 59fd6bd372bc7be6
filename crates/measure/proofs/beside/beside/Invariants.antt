use Rattle.measure.specs.declared.beside.TheConstants.{WINDOW}
use Rattle.measure.proofs.beside.beside.Given as goal

abbrev pub ghosts-beside_with-L-Ledger : goal.ghosts-beside_with-L-Ledger
ghosts-beside_with-L-Ledger g a = record { name = a.blank.name; parts = a.blank.parts }

abbrev pub ghosts-beside_with-L-CallLedger : goal.ghosts-beside_with-L-CallLedger
ghosts-beside_with-L-CallLedger g a = record { limit = WINDOW; settings = a.book.book.settings }
