use Rattle.std.proofs.Common.{refl, ap, ◌∙◌}
use Rattle.outside.specs.declared.missed.Missed.{Missed}
use Rattle.outside.specs.Silences.{missed_with}
use Rattle.outside.proofs.Remembering.{refuted}
use Rattle.outside.proofs.silence.Silence.miss.Goals as goal

pub returns-then-is_excused : goal.returns-then-is_excused
returns-then-is_excused c = record {
  excused = λ _. refl;
  counted = λ isnt. absurd (isnt (c.is_excused.ensures.0 c.if-is_excused.true));
}

pub returns-then-not-is_silent : goal.returns-then-not-is_silent
returns-then-not-is_silent c = record {
  excused = λ is. absurd (refuted c.is_excused.ensures c.if-is_excused.false is);
  counted = λ _. record {
    since = c.since_with-self.ensures;
    missed = c.with.ensures ∙ ap (λ (m : Missed). missed_with m c.args.name) c.replace-missed.ensures.value;
    rests = c.after-self.ensures;
    paused = λ is. absurd (refuted c.is_silent.ensures c.if-not-is_silent.true is);
    unpaused = λ _. refl;
  };
}

pub returns : goal.returns
returns c = record {
  excused = λ is. absurd (refuted c.is_excused.ensures c.if-is_excused.false is);
  counted = λ _. record {
    since = c.since_with-self.ensures;
    missed = c.with.ensures ∙ ap (λ (m : Missed). missed_with m c.args.name) c.replace-missed.ensures.value;
    rests = c.after-self.ensures;
    paused = λ _. c.next-self.ensures;
    unpaused = λ isnt. absurd (isnt (c.is_silent.ensures.0 c.if-not-is_silent.false));
  };
}
