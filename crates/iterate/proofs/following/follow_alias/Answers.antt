use Rattle.std.proofs.Common.{ap, ◌∙◌, arith}
use Rattle.std.proofs.lemmas.Result.{IfOk-weaker}
use Rattle.dns_text.specs.declared.record.Question.{Question}
use Rattle.dns_query.specs.Query.{alias_question}
use Rattle.history.specs.declared.event.Ask.TheVariants.{Answer as Asked}
use Rattle.history.specs.declared.event.Event.TheVariants.{Look}
use Rattle.iterate.specs.declared.want.Want.TheVariants.{Book}
use Rattle.iterate.proofs.FollowTurns.{longer_within, path_within, told_known}
use Rattle.iterate.proofs.PathTurns.{turned, less_left, longer_behind, failing_long}
use Rattle.iterate.proofs.following.follow_alias.Goals as goal

pub returns-in-Some-clause-looks : goal.returns-in-Some-clause-looks
returns-in-Some-clause-looks c = λ few.
    let longer = rw c.in-Some.is at c.in_ok-next.ensures in
    IfOk-weaker c.look_behind.result _ _ (λ t is. is ∙ ap (λ (q : Question). Book (Look c.args.moment (Asked q))) longer.last) c.look_behind.ensures.want

pub returns-in-None-clause-looks : goal.returns-in-None-clause-looks
returns-in-None-clause-looks c = λ few. let long = rw c.in-None.is at c.in_ok-next.ensures in absurd (omega (arith, few, long))

pub returns-in-Some-clause-goes : goal.returns-in-Some-clause-goes
returns-in-Some-clause-goes c = λ port id left question log most h p told target come.
    let longer = rw c.in-Some.is at c.in_ok-next.ensures in
    let known = told_known c.args.harvest.value (alias_question c.args.path.last.owner) c.args.told h told in
    IfOk-weaker c.look_behind.result _ _ (λ t g. less_left (longer_within c.args.path c.in-Some.next c.args.told c.args.to longer most) g)
    (c.look_behind.ensures.goes port id question log h (longer_behind p known target come longer))

pub returns-in-None-clause-goes : goal.returns-in-None-clause-goes
returns-in-None-clause-goes c = λ port id left question log most h p told target come.
    let long = rw c.in-None.is at c.in_ok-next.ensures in
    let known = told_known c.args.harvest.value (alias_question c.args.path.last.owner) c.args.told h told in
    turned c.failed.ensures.phase c.failed.ensures.want (failing_long c.args.path c.args.told c.args.to (path_within p.is_path most) p known target long)
