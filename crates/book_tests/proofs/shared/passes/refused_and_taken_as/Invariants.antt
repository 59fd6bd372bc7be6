use Rattle.undo_book.specs.PlainBook.{settings_in}
use Rattle.book_tests.proofs.shared.passes.refused_and_taken_as.Given as goal

abbrev pub ghosts-refused_and_taken-L-Ledger : goal.ghosts-refused_and_taken-L-Ledger
ghosts-refused_and_taken-L-Ledger g a = record { name = a.blank.name; parts = a.blank.parts }

abbrev pub ghosts-refused_and_taken-L-CallLedger : goal.ghosts-refused_and_taken-L-CallLedger
ghosts-refused_and_taken-L-CallLedger g a = record { limit = 100; settings = settings_in a.book }
