use Rattle.undo_book.specs.PlainBook.{settings_in}
use Rattle.measure.proofs.book.looks.shared_as.Given as goal

abbrev pub ghosts-shared-L-Ledger : goal.ghosts-shared-L-Ledger
ghosts-shared-L-Ledger g a = record { name = a.blank.name; parts = a.blank.parts }

abbrev pub ghosts-shared-L-CallLedger : goal.ghosts-shared-L-CallLedger
ghosts-shared-L-CallLedger g a = record { limit = a.limit; settings = settings_in a.book }
