use Rattle.std.proofs.Common.{◌≡◌, ◌+◌, ◌-◌, ◌++◌, length, take, drop, reverse}
use Rattle.std.specs.Vec.{vec_len, vec_capacity}
use Rattle.local_zone.specs.InPlace.{paired}
use Rattle.local_zone.proofs.in_place.pop_taken.Given as goal

abbrev pub invariant-loop-gap : goal.invariant-loop-gap
invariant-loop-gap l = record {
  list : l.list.items ≡ take (vec_len l.fn.list - length l.gaps) l.fn.list.items ++ reverse (drop l.gap-index (drop (vec_len l.fn.list - length l.gaps) l.fn.list.items));
  taken : l.taken.items ++ paired (drop l.gap-index l.gaps) (drop l.gap-index (drop (vec_len l.fn.list - length l.gaps) l.fn.list.items))
      ≡ l.fn.taken.items ++ paired l.gaps (drop (vec_len l.fn.list - length l.gaps) l.fn.list.items);
  room : vec_len l.taken ≡ vec_len l.fn.taken + l.gap-index;
  capacity : vec_capacity l.taken ≡ vec_capacity l.fn.taken;
}
