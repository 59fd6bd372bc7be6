use Rattle.std.proofs.Common.{◌≡◌, take}
use Rattle.world_book.specs.Held.{held_in}
use Rattle.world_book.proofs.commands.commands.Given as goal

-- those so far
abbrev pub invariant-loop-place : goal.invariant-loop-place
invariant-loop-place g l = l.commands.items ≡ held_in g.C.World.World.told (take l.place l.journal.kept)
