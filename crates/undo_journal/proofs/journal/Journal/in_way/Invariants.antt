use Rattle.std.proofs.Common.{◌≡◌, take}
use Rattle.std.specs.Prelude.{filter}
use Rattle.undo_journal.specs.Journal.{farthest, lies_in_way, tickets_of}
use Rattle.undo_journal.proofs.journal.Journal.in_way.Given as goal

-- the farthest of those looked at
abbrev pub invariant-loop-place : goal.invariant-loop-place
invariant-loop-place g l = l.found ≡ farthest l.from (tickets_of (filter (lies_in_way g.C.World.World.table l.from l.ticket l.table) (take l.place l.self.kept)))
