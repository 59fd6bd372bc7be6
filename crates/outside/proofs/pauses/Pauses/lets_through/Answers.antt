use Rattle.std.specs.Prelude.{Some, None}
use Rattle.std.proofs.Common.{refl, inl, inr}
use Rattle.outside.proofs.Remembering.{refuted}
use Rattle.outside.proofs.pauses.Pauses.lets_through.Goals as goal

pub returns-then-is_paused-clause-passed_over : goal.returns-then-is_paused-clause-passed_over
returns-then-is_paused-clause-passed_over c = λ _. (inl (c.is_paused.ensures.0 c.if-is_paused.true), refl)

pub returns-in_default-clause-let_through : goal.returns-in_default-clause-let_through
returns-in_default-clause-let_through c = λ _. record {
  question = None;
  asked = tt;
  server_free = refuted c.is_paused.ensures c.if-is_paused.false;
  goes_first = refuted c.gives_way.ensures c.if-gives_way.false;
  question_free = tt;
  server_tried = c.begin_trial.ensures.changes;
  question_tried = refl;
}

pub returns-then-is_paused-2-clause-passed_over : goal.returns-then-is_paused-2-clause-passed_over
returns-then-is_paused-2-clause-passed_over c = λ _. (inr (inr (c.in-Some.question, c.in-Some.ensures, c.is_paused-2.ensures.0 c.if-is_paused-2.true)), refl)

pub returns-clause-let_through : goal.returns-clause-let_through
returns-clause-let_through c = λ _. record {
  question = Some c.in-Some.question;
  asked = c.in-Some.ensures;
  server_free = refuted c.is_paused.ensures c.if-is_paused.false;
  goes_first = refuted c.gives_way.ensures c.if-gives_way.false;
  question_free = refuted c.is_paused-2.ensures c.if-is_paused-2.false;
  server_tried = c.begin_trial-2.ensures.changes;
  question_tried = c.begin_trial-3.ensures.changes;
}

pub returns-then-gives_way-clause-passed_over : goal.returns-then-gives_way-clause-passed_over
returns-then-gives_way-clause-passed_over c = λ _. (inr (inl (c.gives_way.ensures.0 c.if-gives_way.true)), refl)
