use Rattle.std.proofs.Common.{[], sym, subst, refl, arith}
use Rattle.history.specs.declared.event.Event.TheVariants.{Forget}
use Rattle.iterate.specs.declared.phase.Attempt.TheVariants as attempt
use Rattle.iterate.specs.declared.want.Input.{Input}
use Rattle.iterate.specs.Measure.{left_of_finds}
use Rattle.iterate.specs.Room.{AsksNext, IsRefusal}
use Rattle.std.proofs.lemmas.Result.{IfOk-weaker}
use Rattle.iterate.proofs.Handing.{attempt_less, came_as, concluding_less, each_ok, forget_refused, heard_on, lawful, misanswered, no_room, not_forgotten_asks, forgotten_hands, unforgotten}
use Rattle.iterate.proofs.admitting.forgotten.Goals as goal

pub returns-then-is_forgotten : goal.returns-then-is_forgotten
returns-then-is_forgotten g c = record {
  asks = λ find handed.
      IfOk-weaker c.hand.result _ _ (λ told is. subst (λ (i : Input). AsksNext attempt.Forget find c.args.moment i told.want) (sym (c.is_forgotten.ensures.0 c.if-is_forgotten.true)) is) (c.hand.ensures.hands find handed);
  further = λ find n. absurd (subst (λ (i : Input). IsRefusal i) (c.is_forgotten.ensures.0 c.if-is_forgotten.true) n.done);
  goes = λ question log t.
      let path = c.args.handing.search.value.path in
      c.hand.ensures.goes question log (left_of_finds path c.args.handing.next attempt.Forget) (heard_on t)
      (forgotten_hands c.args.port question log c.args.handing.search.value c.args.handing.heard.value c.args.handing.allowed c.args.handing.next c.args.input.now t (c.is_forgotten.ensures.0 c.if-is_forgotten.true))
      (concluding_less path c.args.handing.next attempt.Forget) (λ early. attempt_less path c.args.handing.next attempt.Forget attempt.Last (omega arith) (omega arith));
}

pub returns : goal.returns
returns g c = record {
  asks = λ find handed.
      each_ok c.pass.result _ (λ told. not_forgotten_asks find c.args.moment c.args.input.now told.want (λ is. let room = c.is_forgotten.ensures.1 is in let e : ⊥ = cc in e));
  further = λ find n.
      c.pass.ensures.hands find (lawful c.is_forget_passed-lawful.result (λ bad. forget_refused [] c.args.input.now n.done (λ suits. c.is_forget_passed-lawful.ensures bad 0 [] suits))) n.then_handed;
  goes = λ question log t.
      let asked = t.handing.trying.2 in
      c.pass.ensures.goes question log attempt.Forget (heard_on t) t.handing.handed.early
      (no_room (came_as t.adds asked.wanted refl) (unforgotten asked.moment t.handing.trying.0 c.args.input.now (λ is. let room = c.is_forgotten.ensures.1 is in let e : ⊥ = cc in e)))
      (λ bad. misanswered (Forget asked.moment t.handing.trying.0) t.adds asked.wanted t.suits (λ suits. c.is_forget_passed-lawful.ensures bad asked.moment t.handing.trying.0 suits));
}
