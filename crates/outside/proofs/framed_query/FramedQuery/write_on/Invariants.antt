use Rattle.std.proofs.Common.{◌≡◌, ◌≤◌, slice_range}
use Rattle.arrayvec.specs.ArrayVec.{array_vec_len}
use Rattle.std.specs.Io.KnownBytes.{Appends}
use Rattle.outside.proofs.framed_query.FramedQuery.write_on.Given as goal

-- what has left since is written
abbrev pub invariant-loop : goal.invariant-loop
invariant-loop g l = record {
  octets : l.self.octets ≡ l.fn.self.octets;
  left : l.fn.self.left ≤ l.self.left;
  idle : l.fn.self.left ≡ array_vec_len l.fn.self.octets → l.stream ≡ l.fn.stream;
  written : Appends (g.W.Write.contents l.fn.stream) (g.W.Write.contents l.stream) (slice_range l.fn.self.octets.items l.fn.self.left l.self.left);
}
