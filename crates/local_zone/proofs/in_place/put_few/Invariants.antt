use Rattle.std.proofs.Common.{◌≡◌, ◌≤◌, ◌+◌, ◌++◌}
use Rattle.std.specs.Vec.{vec_len, vec_capacity}
use Rattle.std.specs.Vec.Iter.{into_iter_items, into_iter_len}
use Rattle.local_zone.specs.Gaps.{records_of}
use Rattle.local_zone.proofs.in_place.put_few.Given as goal

abbrev pub invariant-loop-t : goal.invariant-loop-t
invariant-loop-t l = record {
  list : l.list.items ++ records_of (into_iter_items l.t-iterator) ≡ l.fn.list.items ++ records_of l.fn.taken.items;
  room : vec_len l.list + into_iter_len l.t-iterator ≤ vec_capacity l.list;
}
