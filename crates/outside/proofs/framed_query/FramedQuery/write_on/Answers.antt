use Rattle.std.proofs.Common.{◌≡◌, ◌≤◌, ◌-◌, List, ℕ, length, take, drop, arith, ap, subst, ◌∙◌}
use Rattle.arrayvec.specs.ArrayVec.{array_vec_len}
use Rattle.std.specs.Io.KnownBytes.{Appends}
use Rattle.std.proofs.KnownBytes.{Appends-kept}
use Rattle.outside.proofs.Passing.{written_on}
use Rattle.outside.proofs.framed_query.FramedQuery.write_on.Goals as goal
use Rattle.outside.proofs.framed_query.FramedQuery.write_on.Goals.{in-Ok, in-Err+in_ok-would_wait-in-Err+else-branch}

pub loop-preserved : goal.loop-preserved
loop-preserved g c =
    let so_far = c.loop.invariant in
    let contents = g.W.Write.contents in
    let left = c.loop.self.left in
    let same_length = ap (λ v. array_vec_len v) so_far.octets in
    let octets = c.args.self.now.octets.items in
    let same : c.as_slice.result.now ≡ octets = c.as_slice.ensures.value ∙ ap (λ v. v.items) so_far.octets in
    elim c.match-write.branch [
      | in-Ok w ↦
          let more = subst (λ (l : List ℕ). Appends (contents c.loop.stream) (contents c.write.new.self) (take w.in-Ok.count (take (length l - left) (drop left l)))) same w.in-Ok.ensures.bytes in
          let within : left ≤ length octets = omega (arith, ap (λ (l : List ℕ). length l) same) in
          rw w.self-is (record {
            octets = so_far.octets;
            left = omega arith;
            idle = λ all. absurd (omega (arith, all, same_length));
            written = written_on _ _ _ octets c.args.self.now.left left w.in-Ok.count so_far.left within so_far.written more;
          })
      | in-Err+in_ok-would_wait-in-Err+else-branch w ↦ rw w.self-is (record { octets = so_far.octets; left = so_far.left; idle = λ all. absurd (omega (arith, all, same_length)); written = Appends-kept _ _ _ _ so_far.written w.in-Err.ensures.bytes })
    ]
