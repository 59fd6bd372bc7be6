use Rattle.std.proofs.Common.{[], subst}
use Rattle.std.proofs.lemmas.Result.{IfOk-weaker}
use Rattle.history.specs.declared.event.Ask.TheVariants.{Answer as Asked}
use Rattle.history.specs.declared.event.Event.TheVariants.{Look}
use Rattle.iterate.specs.declared.want.Input.{Input}
use Rattle.iterate.specs.declared.want.Want.TheVariants.{Book}
use Rattle.iterate.specs.Exchanges.{exchange, Adds}
use Rattle.iterate.proofs.Falling.{few_is}
use Rattle.iterate.proofs.Arriving.{first_come}
use Rattle.iterate.proofs.PathTurns.{turned, less_left, start_less, first_path, first_unknown, first_answering}
use Rattle.iterate.proofs.first_lookup.seen_first.Goals as goal

pub returns-in-Some : goal.returns-in-Some
returns-in-Some c = λ port m id input log replied adds.
    let resolved = rw c.in-Some.is at (c.in_ok-answer.ensures port m c.args.question.now input log replied adds) in
    turned c.finish.ensures.phase c.finish.ensures.want (first_answering c.in-Some.answer adds resolved)

pub returns-in_ok-start-in-None : goal.returns-in_ok-start-in-None
returns-in_ok-start-in-None c = λ port m id input log replied adds.
    let unknown = rw c.in-None.is at (c.in_ok-answer.ensures port m c.args.question.now input log replied adds) in
    let knows = subst (λ (i : Input). Adds [] (exchange (Book (Look m (Asked c.args.question.now))) i) log) unknown adds in
    let path = c.in_ok-start-in-None.field-0 in
    let start = c.in_ok-start-in-None.ensures in
    let less = start_less path in
    IfOk-weaker c.alias.result _ _ (λ t g. less_left (few_is less) g)
    (c.alias.ensures port id c.args.question.now log (record {
      askable = record { is_path = first_path path knows start.last start.sets start.sent; unknown = first_unknown path knows start.last };
      come = first_come path knows start.last;
    }))
