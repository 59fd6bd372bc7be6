use Rattle.std.proofs.Common.{Result, refl, subst}
use Rattle.streams.specs.Text.{octets_in}
use Rattle.history.specs.declared.event.Reply.{Reply}
use Rattle.history.specs.declared.desk.DeskFault.{DeskFault}
use Rattle.history.specs.Answers.{history_after}
use Rattle.command_text.specs.Obeying.{IsTextOf}
use Rattle.command_text.proofs.obeying.ask.Goals as goal

pub returns-clause-asks : goal.returns-clause-asks
returns-clause-asks g c = λ place s.
    let step = c.call-answer.ensures in
    let told = subst (λ (a : Result Reply DeskFault). IsTextOf a (octets_in c.answer_text.result)) step.1 c.answer_text.ensures in (
      record { history = history_after place.history c.args.event step.0; moment = place.moment },
      (step.0, step.2.answers place.history s, told, refl),
      step.2.stands place.history s,
      refl,
    )
