use Rattle.std.proofs.Common.{◌≡◌, false, take, drop}
use Rattle.undo_journal.specs.Journal.{is_among, table_at, tickets_of}
use Rattle.undo_journal.proofs.journal.Journal.place_of.Given as goal

-- none of those looked at has the ticket
abbrev pub invariant-loop-place : goal.invariant-loop-place
invariant-loop-place g l = record {
  absent : is_among (tickets_of (take l.place l.self.kept)) l.ticket ≡ false;
  looked : table_at g.C.World.World.table l.self.kept l.ticket ≡ table_at g.C.World.World.table (drop l.place l.self.kept) l.ticket;
}
