use Rattle.std.proofs.Common.{◌∷◌, [], ◌++◌, length, refl, sym, arith}
use Rattle.dns_name.specs.Octets.{length-spelled_push}
use Rattle.dns_wire.specs.declared.fault.WireFault.TheVariants.{BadName, BadPointer}
use Rattle.dns_wire.specs.Read.Place.{label_at}
use Rattle.dns_wire.specs.Read.Name.{reserved, cut, long, cut_label, not_before}
use Rattle.dns_wire.proofs.Following.{reads_finish, reads_label, reads_pointer, reads_leads, leads_back, ending_of}
use Rattle.dns_wire.proofs.NameLaws.{fewer, length_label_at}
use Rattle.dns_wire.specs.declared.fault.WireFault.TheVariants.{Short}
use Rattle.dns_wire.proofs.read.name.follow_end.Goals as goal

pub returns-in-Finish : goal.returns-in-Finish
returns-in-Finish c =
    let known = c.loop-n.invariant in
    (known.labels, record { stands = reads_finish (known.reads Short) (sym c.in-Finish.ensures) _ _ refl c.unwrap_or.ensures; short = omega (arith, known.used, known.few) })

pub returns-then-used-n-ge-MAX_NAME_OCTETS : goal.returns-then-used-n-ge-MAX_NAME_OCTETS
returns-then-used-n-ge-MAX_NAME_OCTETS c = λ ending. (BadName c.args.start, (c.loop-n.invariant.reads ending).fault _ (long (sym c.in-Label.ensures) (omega (arith, c.loop-n.invariant.used))))

pub returns-then-front-at : goal.returns-then-front-at
returns-then-front-at c = λ ending. (ending_of ending c.loop-n.after, (c.loop-n.invariant.reads ending).fault _ (cut_label (sym c.in-Label.ensures) (omega (arith, c.loop-n.invariant.used)) (omega arith) refl))

pub loop-n-preserved-in-Label : goal.loop-n-preserved-in-Label
loop-n-preserved-in-Label c =
    let known = c.loop-n.invariant in
    let front = c.loop-n.front.now in
    let at = c.loop-n.at in
    let n = c.in-Label.n in
    let one = label_at front at n in
    record {
      labels = known.labels ++ one ∷ [];
      used = omega (arith, known.used, length-spelled_push known.labels one, length_label_at front at n (omega arith));
      reads = λ ending. reads_label (known.reads ending) n (sym c.in-Label.ensures) (omega (arith, known.used)) (omega arith) one refl;
      few = omega arith;
      within = omega arith;
      part = known.part;
      behind = omega arith;
    }

pub returns-then-run-to : goal.returns-then-run-to
returns-then-run-to c = λ ending. (BadPointer c.loop-n.at, (c.loop-n.invariant.reads ending).fault _ (not_before (sym c.in-Pointer.ensures) (omega arith)))

pub loop-n-smaller : goal.loop-n-smaller
loop-n-smaller c =
    let back = leads_back c.end_of-at.ensures in
    omega (arith, fewer (length c.args.message.now) c.loop-n.run c.loop-n.at c.end_of-at.result (omega arith) c.loop-n.invariant.behind (omega arith))

pub loop-n-preserved : goal.loop-n-preserved
loop-n-preserved c =
    let known = c.loop-n.invariant in
    let back = leads_back c.end_of-at.ensures in
    record {
      labels = known.labels;
      used = known.used;
      reads = λ ending. rw (c.unwrap_or-in-Pointer.ensures, c.as_slice-octets.ensures) (reads_leads c.end_of-at.ensures (reads_pointer (known.reads ending) c.in-Pointer.to (sym c.in-Pointer.ensures) (omega arith)));
      few = known.few;
      within = rw c.as_slice-octets.ensures (omega arith);
      part = rw c.as_slice-octets.ensures (omega arith);
      behind = omega arith;
    }

pub returns-in-Reserved : goal.returns-in-Reserved
returns-in-Reserved c = λ ending. (BadName c.args.start, (c.loop-n.invariant.reads ending).fault _ (reserved (sym c.in-Reserved.ensures)))

pub returns-in-Cut : goal.returns-in-Cut
returns-in-Cut c = λ ending. (ending_of ending c.loop-n.after, (c.loop-n.invariant.reads ending).fault _ (cut (sym c.in-Cut.ensures) refl))
