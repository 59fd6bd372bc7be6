use Rattle.std.proofs.Common.{◌∙◌, refl, arith}
use Rattle.flight.specs.Bounds.{ends, stays}
use Rattle.flight.proofs.Bounds.{goes_on_without}
use Rattle.flight.proofs.Relieving.{loses_none_then}
use Rattle.flight.proofs.Settling.{none_lost}
use Rattle.flight.proofs.engine.Flight.relieve.Goals as goal

pub loop-self-init : goal.loop-self-init
loop-self-init g c = record {
  relieves = stays;
  go_on = λ key exchange here. here;
  so_far = λ now. none_lost now c.args.self.now c.args.self.now c.args.sockets.now refl;
  unheard = refl;
  unexpired = refl;
}

pub loop-self-preserved : goal.loop-self-preserved
loop-self-preserved g c =
    let before = c.loop-self.invariant in
    let largest = c.end_largest.ensures.largest in
    record {
      relieves = ends before.relieves (omega (arith, c.kept.ensures.sum, c.loop-self-test.true)) largest;
      go_on = goes_on_without c.args.self.now c.loop-self.self c.end_largest.new.self largest.key before.go_on largest.ended largest.others;
      so_far = λ now. loses_none_then now c.args.self.now c.loop-self.self c.end_largest.new.self _ _ _ (before.so_far now) (c.end_largest.ensures.loses_none now);
      unheard = c.end_largest.ensures.unheard ∙ before.unheard;
      unexpired = c.end_largest.ensures.unexpired ∙ before.unexpired;
    }
