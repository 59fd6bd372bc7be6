use Rattle.undo_book.specs.PlainBook.{settings_in}
use Rattle.book_tests.proofs.shared.limits.made_as.Given as goal

abbrev pub ghosts-made-L-Ledger : goal.ghosts-made-L-Ledger
ghosts-made-L-Ledger g a = record { name = a.blank.name; parts = a.blank.parts }

abbrev pub ghosts-made-L-CallLedger : goal.ghosts-made-L-CallLedger
ghosts-made-L-CallLedger g a = record { limit = a.limit; settings = settings_in a.book }
