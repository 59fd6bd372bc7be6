use Rattle.std.proofs.Common.{◌≡◌, Some, sym, ap, ◌∙◌, subst, refl}
use Rattle.std.proofs.lemmas.Result.{IfOk-from_err}
use Rattle.dns_name.specs.Labels.{Labels}
use Rattle.history.specs.declared.event.Ask.TheVariants.{Oldest}
use Rattle.history.specs.declared.event.Event.TheVariants.{Forget, Look}
use Rattle.history.specs.declared.event.Reply.TheVariants.{Seen}
use Rattle.history.specs.declared.event.Seen.TheVariants.{Oldest as SeenOldest}
use Rattle.iterate.specs.declared.phase.Attempt.TheVariants as attempt
use Rattle.iterate.specs.declared.want.Input.{Input}
use Rattle.iterate.specs.declared.want.Input.TheVariants.{Reply}
use Rattle.iterate.specs.declared.want.Want.TheVariants.{Book}
use Rattle.iterate.specs.Room.{AsksNext, NamesNone}
use Rattle.iterate.proofs.PathTurns.{turned}
use Rattle.iterate.proofs.Handing.{came_as, each_ok, forgetting, heard_on, lawful, misanswered, no_room, none_named, none_oldest_asks}
use Rattle.iterate.proofs.admitting.oldest_came.Goals as goal

pub returns-in_ok-owner-in-Some : goal.returns-in_ok-owner-in-Some
returns-in_ok-owner-in-Some g c = record {
  asks = λ find handed.
      subst (λ (i : Input). AsksNext attempt.Oldest find c.args.moment i c.ask_book.result.want) (sym c.in-Some.ensures)
      (c.ask_book.ensures.want ∙ ap (λ (n : Labels). Book (Forget c.args.moment n)) c.in_ok-owner-in-Some.ensures);
  further = λ find n. absurd (subst (λ (i : Input). NamesNone i) c.in-Some.ensures n.done);
  goes = λ question log t.
      let named = subst (λ (n : Labels). c.args.input.now ≡ Reply (Seen (SeenOldest (Some n)))) (sym c.in_ok-owner-in-Some.ensures) c.in-Some.ensures in
      turned c.ask_book.ensures.phase c.ask_book.ensures.want
      (forgetting c.args.port question log c.args.moment _ c.args.handing c.args.input.now c.in_ok-owner-in-Some.owner t named);
}

pub returns-in-None : goal.returns-in-None
returns-in-None g c = record {
  asks = λ find handed. each_ok c.pass.result _ (λ told. none_oldest_asks find c.args.moment c.args.input.now told.want c.in-None.ensures);
  further = λ find n.
      c.pass.ensures.hands find (lawful c.is_look_passed.result (λ bad. none_named c.args.input.now n.done (λ suits. c.is_look_passed.ensures bad 0 suits))) n.then_handed;
  goes = λ question log t.
      let asked = t.handing.trying.1 in
      c.pass.ensures.goes question log attempt.Oldest (heard_on t) t.handing.handed.early (no_room (came_as t.adds asked.wanted refl) refl)
      (λ bad. misanswered (Look asked.moment Oldest) t.adds asked.wanted t.suits (λ suits. c.is_look_passed.ensures bad asked.moment suits));
}

pub returns-in_err-owner-in-Some : goal.returns-in_err-owner-in-Some
returns-in_err-owner-in-Some g c =
    let failed = c.from_residual.ensures.0 in
    record {
      asks = λ find handed. IfOk-from_err c.from_residual.result _ failed;
      further = λ find n. IfOk-from_err c.from_residual.result _ failed;
      goes = λ question log t. IfOk-from_err c.from_residual.result _ failed;
    }
