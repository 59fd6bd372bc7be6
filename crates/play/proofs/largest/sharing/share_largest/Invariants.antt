use Rattle.shared_book.specs.declared.kept.TheConstants.{MOST_RECORDED}
use Rattle.play.proofs.largest.sharing.share_largest.Given as goal

abbrev pub ghosts-share-L-Ledger : goal.ghosts-share-L-Ledger
ghosts-share-L-Ledger g a = record { name = a.blank.name; parts = a.blank.parts }

abbrev pub ghosts-share-L-CallLedger : goal.ghosts-share-L-CallLedger
ghosts-share-L-CallLedger g a = record { limit = MOST_RECORDED; settings = a.book.book.settings }
