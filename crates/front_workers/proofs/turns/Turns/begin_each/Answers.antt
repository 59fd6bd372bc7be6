use Rattle.std.proofs.Common.{◌∙◌, arith, refl}
use Rattle.front.specs.Rooms.{arrived}
use Rattle.front_workers.proofs.Accounting.{gone_on, stayed}
use Rattle.front_workers.proofs.Beginning.{begun_on}
use Rattle.front_workers.proofs.Posting.{endings_none}
use Rattle.front.proofs.Sending.{posts_none}
use Rattle.front_workers.proofs.turns.Turns.begin_each.Goals as goal

pub loop-slot-init : goal.loop-slot-init
loop-slot-init g c = record { so_far = stayed _ _ _ (endings_none (posts_none refl) refl) refl refl refl refl (omega arith); begin = (refl, refl); reported = refl }

pub loop-slot-preserved : goal.loop-slot-preserved
loop-slot-preserved g c =
    let before = c.loop-slot.invariant in
    record {
      so_far = gone_on _ _ _ _ _ _ before.so_far c.begin.ensures.goes_on;
      begin = begun_on (λ slot. arrived slot.came slot.room) _ c.loop-slot.slot-index c.slot-item.result _ _ _ _ _ _ _ c.loop-slot-test.true c.slot-item.is before.begin c.begin.ensures.just;
      reported = c.begin.ensures.reported ∙ before.reported;
    }
