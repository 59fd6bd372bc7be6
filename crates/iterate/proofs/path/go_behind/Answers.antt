use Rattle.std.proofs.Common.{ap, ◌∙◌, arith}
use Rattle.std.proofs.lemmas.Result.{IfOk-weaker}
use Rattle.dns_text.specs.declared.record.Question.{Question}
use Rattle.history.specs.declared.event.Ask.TheVariants.{Answer as Asked}
use Rattle.history.specs.declared.event.Event.TheVariants.{Look}
use Rattle.iterate.specs.declared.want.Want.TheVariants.{Book}
use Rattle.iterate.specs.Come.{HasCome}
use Rattle.iterate.proofs.Falling.{few_is}
use Rattle.iterate.proofs.PathTurns.{turned, less_left, longer_less, longer_behind, failing_long, path_some}
use Rattle.iterate.proofs.path.go_behind.Goals as goal

pub returns-in-Some-clause-goes : goal.returns-in-Some-clause-goes
returns-in-Some-clause-goes c = λ port id question log u known target.
    let longer = rw c.in-Some.is at c.in_ok-next.ensures in
    let less = longer_less c.args.path c.in-Some.next c.args.told c.args.to 4 2 longer (omega arith) in
    IfOk-weaker c.look_on.result _ _ (λ t g. less_left (few_is less) g) (c.look_on.ensures.goes port id question log (longer_behind u.askable known target (HasCome.along u.come known target) longer))

pub returns-in-None-clause-goes : goal.returns-in-None-clause-goes
returns-in-None-clause-goes c = λ port id question log u known target.
    let long = rw c.in-None.is at c.in_ok-next.ensures in
    turned c.failed.ensures.phase c.failed.ensures.want (failing_long c.args.path c.args.told c.args.to (path_some 2 u.askable.is_path) u.askable known target long)

pub returns-in-Some-clause-looks : goal.returns-in-Some-clause-looks
returns-in-Some-clause-looks c = λ few.
    let longer = rw c.in-Some.is at c.in_ok-next.ensures in
    IfOk-weaker c.look_on.result _ _ (λ t is. is ∙ ap (λ (q : Question). Book (Look c.args.moment (Asked q))) longer.last) c.look_on.ensures.want

pub returns-in-None-clause-looks : goal.returns-in-None-clause-looks
returns-in-None-clause-looks c = λ few. let long = rw c.in-None.is at c.in_ok-next.ensures in absurd (omega (arith, few, long))
