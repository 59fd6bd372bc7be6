use Rattle.measure.proofs.between.between.Given as goal

abbrev pub ghosts-between_with-L-Ledger : goal.ghosts-between_with-L-Ledger
ghosts-between_with-L-Ledger g a = record { name = a.blank.name; parts = a.blank.parts }

abbrev pub ghosts-between_with-L-CallLedger : goal.ghosts-between_with-L-CallLedger
ghosts-between_with-L-CallLedger g a = record { limit = 1; settings = a.book.book.settings }
