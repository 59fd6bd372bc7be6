use Rattle.resolver_cli.proofs.service.serve_at.Given as goal

abbrev pub ghosts-serve_over-L-Ledger : goal.ghosts-serve_over-L-Ledger
ghosts-serve_over-L-Ledger g a = record { name = a.blank.name; parts = a.blank.parts }

abbrev pub ghosts-serve_over-L-CallLedger : goal.ghosts-serve_over-L-CallLedger
ghosts-serve_over-L-CallLedger g a = record { limit = a.record_limit; settings = a.book.book.book.settings }
