use Rattle.std.proofs.Common.{◌≡◌, ◌+◌, ℕ, subst, Some, true, slice_get, refl, inl, inr, arith, rules}
use Rattle.dns_wire.specs.declared.read.place.Next.TheVariants.{Label}
use Rattle.dns_wire.specs.Read.Place.{next_at}
use Rattle.replies.specs.Dear.{Behind, Ended, Onward, Fits, IsKnownName, IsStuck, NameTakes, behind, cut, cut_label, fails as name_fails, finish, known_name, label, label_steps, long, not_before, pointer, pointer_on, read, reserved, so_far, stopped, wanting}
use Rattle.replies.proofs.Dearness.{fails, next_label, next_none, next_zero, settle_behind}
use Rattle.replies.proofs.dear.follow_name.Goals as goal
use Rattle.replies.proofs.dear.follow_name.Goals.{then-used-octet-gt-MAX_NAME_OCTETS-via-then-used-octet-gt-MAX_NAME_OCTETS, then-used-octet-gt-MAX_NAME_OCTETS-via-else-used-octet-gt-MAX_NAME_OCTETS+then-octets-at}
use Rattle.replies.proofs.dear.follow_name.Goals.{else-copies-via-then-copies+then-at-start+else-to-eq-HEADER_OCTETS, else-copies-via-then-copies+else-at-start, else-copies-via-else-copies}

pub returns-in_err-octet-clause-takes : goal.returns-in_err-octet-clause-takes
returns-in_err-octet-clause-takes c =
    let before = c.loop-octet.invariant in
    let stops = c.in_err-octet.ensures.err in
    fails _ _ _ _ _ c.from_residual.ensures (rw stops.0 (stopped {n = before.spent} (omega arith) (before.leads 0 _ Ended (name_fails (cut (next_none c.args.octets.now c.loop-octet.at stops.1))) (omega arith))))

pub returns-then-octet-eq0-clause-takes : goal.returns-then-octet-eq0-clause-takes
returns-then-octet-eq0-clause-takes c =
    let before = c.loop-octet.invariant in
    let is : slice_get c.args.octets.now c.loop-octet.at ≡ Some 0 = rw c.if-octet-eq0.true at c.in_ok-octet.ensures.ok in
    read {n = before.spent} (omega arith) (rw c.unwrap_or.ensures (before.leads 0 _ (Behind (c.loop-octet.at + 1)) (finish (next_zero c.args.octets.now c.loop-octet.at is)) (omega arith)))

pub returns-then-used-octet-gt-MAX_NAME_OCTETS-clause-takes : goal.returns-then-used-octet-gt-MAX_NAME_OCTETS-clause-takes
returns-then-used-octet-gt-MAX_NAME_OCTETS-clause-takes c =
    let before = c.loop-octet.invariant in
    let here : next_at c.args.octets.now c.loop-octet.at ≡ Label c.in_ok-octet.octet = next_label c.args.octets.now c.loop-octet.at c.in_ok-octet.octet c.in_ok-octet.ensures.ok (omega arith) c.if-octet-lt-LABEL_END.true in
    let stuck : IsStuck c.args.octets.now c.loop-octet.at c.loop-octet.run c.loop-octet.used = elim c.then-used-octet-gt-MAX_NAME_OCTETS.branch [
      | then-used-octet-gt-MAX_NAME_OCTETS-via-then-used-octet-gt-MAX_NAME_OCTETS w ↦ long here w.if-used-octet-gt-MAX_NAME_OCTETS.true
      | then-used-octet-gt-MAX_NAME_OCTETS-via-else-used-octet-gt-MAX_NAME_OCTETS+then-octets-at w ↦ cut_label here (omega (arith, w.if-octets-at.true, c.in_ok-octet.ensures.within))
    ] in
    stopped {n = before.spent} (omega arith) (before.leads 0 _ Ended (name_fails stuck) (omega arith))

pub returns-in_err-take_steps-clause-takes : goal.returns-in_err-take_steps-clause-takes
returns-in_err-take_steps-clause-takes c =
    let before = c.loop-octet.invariant in
    let stops = c.in_err-take_steps.ensures.err in
    let size = c.in_ok-octet.octet in
    let fits : Fits c.args.octets.now c.loop-octet.at c.loop-octet.used size = record {
      is = next_label c.args.octets.now c.loop-octet.at c.in_ok-octet.octet c.in_ok-octet.ensures.ok (omega arith) c.if-octet-lt-LABEL_END.true;
      short = c.if-used-octet-gt-MAX_NAME_OCTETS.false;
      whole = omega (arith, c.if-octets-at.false, c.in_ok-octet.ensures.within);
    } in
    fails _ _ _ _ _ c.from_residual-in_err-take_steps.ensures (rw stops.0 (wanting {n = before.spent + label_steps size} (omega (arith, stops.1)) (before.leads (label_steps size) _ Onward (label fits so_far (omega arith)) refl)))

pub loop-octet-preserved-then-octet-lt-LABEL_END : goal.loop-octet-preserved-then-octet-lt-LABEL_END
loop-octet-preserved-then-octet-lt-LABEL_END c =
    let before = c.loop-octet.invariant in
    let m = c.args.octets.now in
    let at = c.loop-octet.at in
    let used = c.loop-octet.used in
    let size = c.in_ok-octet.octet in
    let fits : Fits m at used size = record {
      is = next_label c.args.octets.now c.loop-octet.at c.in_ok-octet.octet c.in_ok-octet.ensures.ok (omega arith) c.if-octet-lt-LABEL_END.true;
      short = c.if-used-octet-gt-MAX_NAME_OCTETS.false;
      whole = omega (arith, c.if-octets-at.false, c.in_ok-octet.ensures.within);
    } in
    record {
      within = before.within;
      few = omega arith;
      spent = before.spent + label_steps size;
      is_spent = omega (arith, c.in_ok-take_steps.ensures.ok);
      leads = λ k n come takes is.
          let place : at + (size + 1) ≡ at + 1 + size = omega arith in
          let octets : used + (size + 1) ≡ used + size + 1 = omega arith in
          let rest = subst (λ (u : ℕ). NameTakes m c.args.copies c.args.start (at + 1 + size) c.loop-octet.run u k come) octets
          (subst (λ (a : ℕ). NameTakes m c.args.copies c.args.start a c.loop-octet.run (used + (size + 1)) k come) place takes) in
          before.leads (label_steps size + k) n come (label fits rest refl) (omega arith);
    }

pub returns-in_err-to-clause-takes : goal.returns-in_err-to-clause-takes
returns-in_err-to-clause-takes c =
    let before = c.loop-octet.invariant in
    let stops = c.in_err-to.ensures.err in
    let stuck : IsStuck c.args.octets.now c.loop-octet.at c.loop-octet.run c.loop-octet.used = elim stops.1 [
      | inl is ↦ cut is
      | inr is ↦ reserved is
    ] in
    fails _ _ _ _ _ c.from_residual-in_err-to.ensures (rw stops.0 (stopped {n = before.spent} (omega arith) (before.leads 0 _ Ended (name_fails stuck) (omega arith))))

pub returns-then-to-run-clause-takes : goal.returns-then-to-run-clause-takes
returns-then-to-run-clause-takes c =
    let before = c.loop-octet.invariant in
    stopped {n = before.spent} (omega arith) (before.leads 0 _ Ended (name_fails (not_before c.in_ok-to.ensures.ok c.if-to-run.true)) (omega arith))

pub returns-in_err-take_steps-2-clause-takes : goal.returns-in_err-take_steps-2-clause-takes
returns-in_err-take_steps-2-clause-takes c =
    let before = c.loop-octet.invariant in
    let stops = c.in_err-take_steps-2.ensures.err in
    fails _ _ _ _ _ c.from_residual-in_err-take_steps-2.ensures (rw stops.0 (wanting {n = before.spent + 1} (omega (arith, stops.1)) (before.leads 1 _ Onward (pointer_on c.in_ok-to.ensures.ok c.if-to-run.false) refl)))

pub returns-then-to-eq-HEADER_OCTETS-clause-takes : goal.returns-then-to-eq-HEADER_OCTETS-clause-takes
returns-then-to-eq-HEADER_OCTETS-clause-takes c =
    let before = c.loop-octet.invariant in
    let is : IsKnownName c.args.copies c.args.start c.loop-octet.at c.in_ok-to.to = record { is_known = c.if-copies.true; is_first = c.if-at-start.true; leads = c.if-to-eq-HEADER_OCTETS.true } in
    read {n = before.spent + 1} (omega (arith, c.in_ok-take_steps-2.ensures.ok)) (rw c.unwrap_or-then-to-eq-HEADER_OCTETS.ensures
    (before.leads 1 _ (Behind (c.loop-octet.at + 2)) (known_name c.in_ok-to.ensures.ok c.if-to-run.false is) refl))

pub loop-octet-preserved : goal.loop-octet-preserved
loop-octet-preserved c =
    let before = c.loop-octet.invariant in
    let to = c.in_ok-to.to in
    let after = c.loop-octet.after in
    let other : ¬ (IsKnownName c.args.copies c.args.start c.loop-octet.at to) = elim c.else-copies.branch [
      | else-copies-via-then-copies+then-at-start+else-to-eq-HEADER_OCTETS w ↦ λ all. w.if-to-eq-HEADER_OCTETS.false all.leads
      | else-copies-via-then-copies+else-at-start w ↦ λ all. w.if-at-start.false all.is_first
      | else-copies-via-else-copies w ↦ λ all. let known = all.is_known in cc
    ] in
    record {
      within = search rules;
      few = before.few;
      spent = before.spent + 1;
      is_spent = omega (arith, c.in_ok-take_steps-2.ensures.ok);
      leads = λ k n come takes is.
          let named = before.leads (1 + k) n (behind (c.loop-octet.at + 2) come) (pointer c.in_ok-to.ensures.ok c.if-to-run.false other takes refl) (omega arith) in
          rw c.unwrap_or-else-octet-lt-LABEL_END.ensures (rw (settle_behind after (c.loop-octet.at + 2) come) at named);
    }
