use Rattle.std.proofs.Common.{◌≡◌, take}
use Rattle.harvest.specs.Indexed.{IsIndex}
use Rattle.harvest.specs.Sets.{sets_of}
use Rattle.harvest.proofs.sets.sets_of.Given as goal

abbrev pub invariant-loop-r : goal.invariant-loop-r
invariant-loop-r l = record {
  sets : l.sets.items ≡ sets_of (take l.r-index l.records.items);
  places : IsIndex l.places l.sets.items;
}
