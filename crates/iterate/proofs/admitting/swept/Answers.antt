use Rattle.std.proofs.Common.{sym, subst, refl, arith}
use Rattle.history.specs.declared.event.Event.TheVariants.{Sweep}
use Rattle.iterate.specs.declared.phase.Attempt.TheVariants as attempt
use Rattle.iterate.specs.declared.want.Input.{Input}
use Rattle.iterate.specs.Measure.{left_of_finds}
use Rattle.iterate.specs.Room.{AsksNext, IsRefusal}
use Rattle.std.proofs.lemmas.Result.{IfOk-weaker}
use Rattle.iterate.proofs.Handing.{attempt_less, came_as, concluding_less, each_ok, heard_on, lawful, misanswered, no_room, not_swept_asks, sweep_refused, swept_hands, unswept}
use Rattle.iterate.proofs.admitting.swept.Goals as goal

pub returns-then-is_swept : goal.returns-then-is_swept
returns-then-is_swept g c = record {
  asks = λ find handed.
      IfOk-weaker c.hand.result _ _ (λ told is. subst (λ (i : Input). AsksNext attempt.Sweep find c.args.moment i told.want) (sym (c.is_swept.ensures.0 c.if-is_swept.true)) is) (c.hand.ensures.hands find handed);
  further = λ find n. absurd (subst (λ (i : Input). IsRefusal i) (c.is_swept.ensures.0 c.if-is_swept.true) n.done);
  goes = λ question log t.
      let path = c.args.handing.search.value.path in
      c.hand.ensures.goes question log (left_of_finds path c.args.handing.next attempt.Sweep) (heard_on t)
      (swept_hands c.args.port question log c.args.handing.search.value c.args.handing.heard.value c.args.handing.allowed c.args.handing.next c.args.input.now t (c.is_swept.ensures.0 c.if-is_swept.true))
      (concluding_less path c.args.handing.next attempt.Sweep) (λ early. attempt_less path c.args.handing.next attempt.Sweep attempt.Again (omega arith) (omega arith));
}

pub returns : goal.returns
returns g c = record {
  asks = λ find handed.
      each_ok c.pass.result _ (λ told. not_swept_asks find c.args.moment c.args.input.now told.want (λ is. let room = c.is_swept.ensures.1 is in let e : ⊥ = cc in e));
  further = λ find n.
      c.pass.ensures.hands find (lawful c.is_sweep_passed-lawful.result (λ bad. sweep_refused c.args.input.now n.done (λ suits. c.is_sweep_passed-lawful.ensures bad 0 suits))) n.then_handed;
  goes = λ question log t.
      let asked = t.handing.trying.1 in
      c.pass.ensures.goes question log attempt.Sweep (heard_on t) t.handing.handed.early
      (no_room (came_as t.adds asked.wanted refl) (unswept asked.moment c.args.input.now (λ is. let room = c.is_swept.ensures.1 is in let e : ⊥ = cc in e)))
      (λ bad. misanswered (Sweep asked.moment) t.adds asked.wanted t.suits (λ suits. c.is_sweep_passed-lawful.ensures bad asked.moment suits));
}
