use Rattle.undo_book.specs.PlainBook.{settings_in}
use Rattle.book_tests.proofs.one_book_as.Given as goal

abbrev pub ghosts-one_book-L-Ledger : goal.ghosts-one_book-L-Ledger
ghosts-one_book-L-Ledger g a = record { name = a.blank.name; parts = a.blank.parts }

abbrev pub ghosts-one_book-L-CallLedger : goal.ghosts-one_book-L-CallLedger
ghosts-one_book-L-CallLedger g a = record { limit = a.limit; settings = settings_in a.book }
