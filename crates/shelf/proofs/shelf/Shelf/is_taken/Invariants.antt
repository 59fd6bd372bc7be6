use Rattle.std.proofs.Common.{◌≡◌, false, take}
use Rattle.std.specs.Prelude.{fold}
use Rattle.shelf.specs.Room.{takes, taken_by}
use Rattle.shelf.specs.Told.{cell_at}
use Rattle.shelf.proofs.shelf.Shelf.is_taken.Given as goal

-- none of the versions so far would cache it
abbrev pub invariant-loop-own : goal.invariant-loop-own
invariant-loop-own l =
    fold (taken_by (cell_at l.self) l.find l.moment (record { owner = l.find.owner; kind = l.kind })) (takes (cell_at l.self) l.find l.moment (record { owner = l.find.owner; kind = l.kind }) 0) (take l.own-index l.self.kept.items) ≡ false
