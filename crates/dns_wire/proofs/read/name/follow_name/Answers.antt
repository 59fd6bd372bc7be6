use Rattle.std.proofs.Common.{◌≡◌, refl, ◌+◌, ◌-◌, drop, take, length, sym, ap, arith, map, inr}
use Rattle.std.specs.Char.{to_ascii_lowercase}
use Rattle.dns_wire.specs.Read.Name.{reserved, cut, long, cut_label, not_before}
use Rattle.dns_wire.proofs.Following.{reads_finish, reads_label, reads_pointer, reads_leads, leads_back}
use Rattle.dns_wire.proofs.NameLaws.{fewer}
use Rattle.dns_wire.proofs.read.name.follow_name.Goals as goal

pub returns-in-Finish-clause-stands : goal.returns-in-Finish-clause-stands
returns-in-Finish-clause-stands c = reads_finish c.loop-labels.invariant.reads (sym c.in-Finish.ensures) _ _ c.in_ok-name-in-Finish.ensures.made c.unwrap_or.ensures

pub returns-then-n-room-clause-stands : goal.returns-then-n-room-clause-stands
returns-then-n-room-clause-stands c = inr (c.loop-labels.invariant.reads.fault _ (long (sym c.in-Label.ensures) (omega (arith, c.room.ensures.room, c.if-n-room.true))))

pub returns-then-front-at-clause-stands : goal.returns-then-front-at-clause-stands
returns-then-front-at-clause-stands c = inr (c.loop-labels.invariant.reads.fault _ (cut_label (sym c.in-Label.ensures) (omega (arith, c.room.ensures.room, c.if-n-room.false)) (omega arith) refl))

pub loop-labels-preserved-in-Label : goal.loop-labels-preserved-in-Label
loop-labels-preserved-in-Label c =
    let at = c.loop-labels.at in
    let n = c.in-Label.n in
    let count : (at + 1 + n) - (at + 1) ≡ n = omega arith in
    record {
      reads = rw c.push.ensures (reads_label c.loop-labels.invariant.reads n (sym c.in-Label.ensures) (omega (arith, c.room.ensures.room, c.if-n-room.false)) (omega arith) _ (ap (λ k. map to_ascii_lowercase (take k (drop (at + 1) c.loop-labels.front.now))) count));
      within = omega arith;
      part = c.loop-labels.invariant.part;
      behind = omega arith;
    }

pub returns-then-to-run-clause-stands : goal.returns-then-to-run-clause-stands
returns-then-to-run-clause-stands c = inr (c.loop-labels.invariant.reads.fault _ (not_before (sym c.in-Pointer.ensures) (omega arith)))

pub loop-labels-smaller : goal.loop-labels-smaller
loop-labels-smaller c =
    let back = leads_back c.end_of-at.ensures in
    omega (arith, fewer (length c.args.message.now) c.loop-labels.run c.loop-labels.at c.end_of-at.result (omega arith) c.loop-labels.invariant.behind (omega arith))

pub loop-labels-preserved : goal.loop-labels-preserved
loop-labels-preserved c =
    let back = leads_back c.end_of-at.ensures in
    record {
      reads = rw (c.unwrap_or-in-Pointer.ensures, c.as_slice-octets.ensures) (reads_leads c.end_of-at.ensures (reads_pointer c.loop-labels.invariant.reads c.in-Pointer.to (sym c.in-Pointer.ensures) (omega arith)));
      within = rw c.as_slice-octets.ensures (omega arith);
      part = rw c.as_slice-octets.ensures (omega arith);
      behind = omega arith;
    }

pub returns-in-Reserved-clause-stands : goal.returns-in-Reserved-clause-stands
returns-in-Reserved-clause-stands c = inr (c.loop-labels.invariant.reads.fault _ (reserved (sym c.in-Reserved.ensures)))

pub returns-in-Cut-clause-stands : goal.returns-in-Cut-clause-stands
returns-in-Cut-clause-stands c = inr (c.loop-labels.invariant.reads.fault _ (cut (sym c.in-Cut.ensures) refl))
