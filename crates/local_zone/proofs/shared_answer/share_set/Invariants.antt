use Rattle.std.proofs.Common.{◌≡◌, map, take}
use Rattle.std.specs.Vec.{vec_len, vec_capacity}
use Rattle.local_zone.specs.Show.{shown_as, timed_as}
use Rattle.local_zone.proofs.shared_answer.share_set.Given as goal

abbrev pub invariant-loop-r : goal.invariant-loop-r
invariant-loop-r l = record {
  items : l.seen.items ≡ map (λ r. shown_as l.shown (timed_as l.ttl r)) (take l.r-index l.records);
  len : vec_len l.seen ≡ l.r-index;
  room : vec_capacity l.seen ≡ l.room;
}
