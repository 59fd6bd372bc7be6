use Rattle.undo_book.specs.PlainBook.{settings_in}
use Rattle.book_tests.proofs.shared.closing.closed_as.Given as goal

abbrev pub ghosts-two_callers-L-Ledger : goal.ghosts-two_callers-L-Ledger
ghosts-two_callers-L-Ledger g a = record { name = a.blank.name; parts = a.blank.parts }

abbrev pub ghosts-two_callers-L-CallLedger : goal.ghosts-two_callers-L-CallLedger
ghosts-two_callers-L-CallLedger g a = record { limit = 100; settings = settings_in a.book }
