use Rattle.undo_book.specs.PlainBook.{settings_in}
use Rattle.book_tests.proofs.steps_as.Given as goal

abbrev pub ghosts-steps-L-Ledger : goal.ghosts-steps-L-Ledger
ghosts-steps-L-Ledger g a = record { name = a.blank.name; parts = a.blank.parts }

abbrev pub ghosts-steps-L-CallLedger : goal.ghosts-steps-L-CallLedger
ghosts-steps-L-CallLedger g a = record { limit = a.limit; settings = settings_in a.book }
