use Rattle.undo_book.specs.PlainBook.{settings_in}
use Rattle.book_tests.proofs.shared.moving.closed_as.Given as goal

abbrev pub ghosts-closed-L-Ledger : goal.ghosts-closed-L-Ledger
ghosts-closed-L-Ledger g a = record { name = a.blank.name; parts = a.blank.parts }

abbrev pub ghosts-closed-L-CallLedger : goal.ghosts-closed-L-CallLedger
ghosts-closed-L-CallLedger g a = record { limit = 2; settings = settings_in a.book }
