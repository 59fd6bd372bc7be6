use Rattle.std.proofs.Common.{◌≡◌, ◌+◌, ◌∷◌, [], ◌++◌, refl, sym, inl, inr, arith}
use Rattle.dns_name.specs.Octets.{length-spelled_push}
use Rattle.dns_wire.specs.declared.fault.WireFault.TheVariants.{BadName, Short}
use Rattle.dns_wire.specs.Read.Place.{label_at}
use Rattle.dns_wire.specs.Read.Name.{reserved, cut, long, cut_label}
use Rattle.dns_wire.specs.Server.Asking.{here, behind_label}
use Rattle.dns_wire.proofs.Following.{reads_finish, reads_label}
use Rattle.dns_wire.proofs.NameLaws.{after_within, length_label_at}
use Rattle.dns_wire.proofs.PointerLaws.{pointer_behind, ends_whole}
use Rattle.dns_wire.proofs.server.asking.whole_end.Goals as goal

pub returns-in-Finish-clause-stands : goal.returns-in-Finish-clause-stands
returns-in-Finish-clause-stands c =
    let known = c.loop-n.invariant in
    let is = sym c.in-Finish.ensures in
    (known.labels, record { stands = reads_finish known.reads is _ _ refl refl; short = omega (arith, known.used, known.few) }, λ h. ends_whole c.args.message.now c.loop-n.at is (known.same.1 h))

pub returns-in-Finish-clause-within : goal.returns-in-Finish-clause-within
returns-in-Finish-clause-within c = omega (arith, after_within (reads_finish c.loop-n.invariant.reads (sym c.in-Finish.ensures) _ _ refl refl))

pub returns-then-used-n-ge-MAX_NAME_OCTETS-clause-stands : goal.returns-then-used-n-ge-MAX_NAME_OCTETS-clause-stands
returns-then-used-n-ge-MAX_NAME_OCTETS-clause-stands c = inl (BadName c.args.start, c.loop-n.invariant.reads.fault _ (long (sym c.in-Label.ensures) (omega (arith, c.loop-n.invariant.used))))

pub returns-then-message-at-clause-stands : goal.returns-then-message-at-clause-stands
returns-then-message-at-clause-stands c = inl (Short, c.loop-n.invariant.reads.fault _ (cut_label (sym c.in-Label.ensures) (omega (arith, c.loop-n.invariant.used)) (omega arith) refl))

pub loop-n-preserved : goal.loop-n-preserved
loop-n-preserved c =
    let known = c.loop-n.invariant in
    let m = c.args.message.now in
    let at = c.loop-n.at in
    let n = c.in-Label.n in
    let is = sym c.in-Label.ensures in
    let one = label_at m at n in
    let next : at + (n + 1) ≡ at + 1 + n = omega arith in
    record {
      labels = known.labels ++ one ∷ [];
      used = omega (arith, known.used, length-spelled_push known.labels one, length_label_at m at n (omega arith));
      reads = reads_label known.reads n is (omega (arith, known.used)) (omega arith) one refl;
      same = ((λ h. known.same.0 (behind_label is (rw next at h))), (λ h. rw next (pointer_behind m at n is (known.same.1 h))));
      few = omega arith;
      within = omega arith;
    }

pub returns-in-Pointer-clause-stands : goal.returns-in-Pointer-clause-stands
returns-in-Pointer-clause-stands c = inr (c.loop-n.invariant.same.0 (here (sym c.in-Pointer.ensures)))

pub returns-in-Reserved-clause-stands : goal.returns-in-Reserved-clause-stands
returns-in-Reserved-clause-stands c = inl (BadName c.args.start, c.loop-n.invariant.reads.fault _ (reserved (sym c.in-Reserved.ensures)))

pub returns-in-Cut-clause-stands : goal.returns-in-Cut-clause-stands
returns-in-Cut-clause-stands c = inl (Short, c.loop-n.invariant.reads.fault _ (cut (sym c.in-Cut.ensures) refl))
