use Rattle.std.proofs.Common.{inr, refl}
use Rattle.outside.proofs.Remembering.{either_way}
use Rattle.outside.proofs.kept.add.Goals as goal

pub returns-clause-adds : goal.returns-clause-adds
returns-clause-adds g c = record {
  between = c.make_room.new.kept;
  room = c.make_room.ensures.room;
  adds = either_way c.insert.result c.insert.ensures.updates c.insert.ensures.err;
}

pub returns-then-not-make_room-clause-adds : goal.returns-then-not-make_room-clause-adds
returns-then-not-make_room-clause-adds g c = record { between = c.make_room.new.kept; room = c.make_room.ensures.room; adds = inr refl }
