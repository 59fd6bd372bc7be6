use Rattle.std.proofs.Common.{refl}
use Rattle.history.specs.declared.event.Event.TheVariants.{Admit}
use Rattle.iterate.specs.declared.phase.Attempt.TheVariants as attempt
use Rattle.iterate.proofs.PathTurns.{turned}
use Rattle.iterate.proofs.Handing.{asking_oldest, came_as, each_ok, full_again, heard_on, lawful, misanswered, no_room, not_full_again, taken}
use Rattle.iterate.proofs.admitting.handed_again.Goals as goal

pub returns-then-is_full : goal.returns-then-is_full
returns-then-is_full g c = record {
  asks = λ find handed. full_again find c.args.moment c.args.input.now c.ask_book.result.want (c.is_full.ensures.0 c.if-is_full.true) c.ask_book.ensures.want;
  further = λ find n. absurd (n.done.1 (c.is_full.ensures.0 c.if-is_full.true));
  goes = λ question log t.
      turned c.ask_book.ensures.phase c.ask_book.ensures.want
      (asking_oldest c.args.port question log c.args.moment _ c.args.handing c.args.input.now t (c.is_full.ensures.0 c.if-is_full.true));
}

pub returns : goal.returns
returns g c = record {
  asks = λ find handed.
      each_ok c.pass.result _ (λ told. not_full_again find c.args.moment c.args.input.now told.want (λ says. let full = c.is_full.ensures.1 says in let e : ⊥ = cc in e));
  further = λ find n.
      c.pass.ensures.hands find (lawful c.is_passed-lawful.result (λ bad. taken n.find c.args.input.now n.done.0 (λ suits. c.is_passed-lawful.ensures bad 0 n.find suits))) n.then_handed;
  goes = λ question log t.
      let asked = t.handing.trying.1 in
      c.pass.ensures.goes question log attempt.Again (heard_on t) t.handing.handed.early (no_room (came_as t.adds asked.wanted refl) refl)
      (λ bad. misanswered (Admit asked.moment t.handing.find) t.adds asked.wanted t.suits (λ suits. c.is_passed-lawful.ensures bad asked.moment t.handing.find suits));
}
