use Rattle.book_tests.proofs.shared.sweeping.refilled_shelf.Given as goal

abbrev pub ghosts-refilled-L-Ledger : goal.ghosts-refilled-L-Ledger
ghosts-refilled-L-Ledger g a = record { name = a.blank.name; parts = a.blank.parts }

abbrev pub ghosts-refilled-L-CallLedger : goal.ghosts-refilled-L-CallLedger
ghosts-refilled-L-CallLedger g a = record { limit = 10; settings = a.book.book.settings }
