use Rattle.std.proofs.Common.{refl}
use Rattle.history.specs.declared.event.Event.TheVariants.{Admit}
use Rattle.iterate.specs.declared.phase.Attempt.TheVariants as attempt
use Rattle.iterate.proofs.Handing.{came_as, each_ok, heard_on, lawful, misanswered, no_room, taken}
use Rattle.iterate.proofs.admitting.handed_last.Goals as goal

pub returns : goal.returns
returns g c = record {
  asks = λ find handed. each_ok c.pass.result _ (λ told. tt);
  further = λ find n.
      c.pass.ensures.hands find (lawful c.is_passed-lawful.result (λ bad. taken n.find c.args.input.now n.done (λ suits. c.is_passed-lawful.ensures bad 0 n.find suits))) n.then_handed;
  goes = λ question log t.
      let asked = t.handing.trying.1 in
      c.pass.ensures.goes question log attempt.Last (heard_on t) t.handing.handed.early (no_room (came_as t.adds asked.wanted refl) refl)
      (λ bad. misanswered (Admit asked.moment t.handing.find) t.adds asked.wanted t.suits (λ suits. c.is_passed-lawful.ensures bad asked.moment t.handing.find suits));
}
