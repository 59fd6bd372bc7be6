use Rattle.workloads.specs.declared.shared.TheConstants.{WINDOW}
use Rattle.workloads.proofs.shared.shared_job.Given as goal

abbrev pub ghosts-work_over-L-Ledger : goal.ghosts-work_over-L-Ledger
ghosts-work_over-L-Ledger g a = record { name = a.blank.name; parts = a.blank.parts }

abbrev pub ghosts-work_over-L-CallLedger : goal.ghosts-work_over-L-CallLedger
ghosts-work_over-L-CallLedger g a = record { limit = WINDOW; settings = a.book.book.settings }
