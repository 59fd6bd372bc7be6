use Rattle.undo_book.specs.PlainBook.{settings_in}
use Rattle.book_tests.proofs.shared.passes.seen_by_both_as.Given as goal

abbrev pub ghosts-seen_by_both-L-Ledger : goal.ghosts-seen_by_both-L-Ledger
ghosts-seen_by_both-L-Ledger g a = record { name = a.blank.name; parts = a.blank.parts }

abbrev pub ghosts-seen_by_both-L-CallLedger : goal.ghosts-seen_by_both-L-CallLedger
ghosts-seen_by_both-L-CallLedger g a = record { limit = 100; settings = settings_in a.book }
