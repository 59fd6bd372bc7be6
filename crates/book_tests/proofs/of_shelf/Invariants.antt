use Rattle.book_tests.specs.declared.drawn_calls.in_threads.TheConstants.{RECORDED_OF_TWO}
use Rattle.book_tests.proofs.of_shelf.Given as goal

abbrev pub ghosts-two_threads-L-Ledger : goal.ghosts-two_threads-L-Ledger
ghosts-two_threads-L-Ledger g a = record { name = a.blank.name; parts = a.blank.parts }

abbrev pub ghosts-two_threads-L-CallLedger : goal.ghosts-two_threads-L-CallLedger
ghosts-two_threads-L-CallLedger g a = record { limit = RECORDED_OF_TWO; settings = a.book.book.settings }
