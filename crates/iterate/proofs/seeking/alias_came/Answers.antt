use Rattle.std.proofs.Common.{◌≡◌, subst, refl}
use Rattle.history.specs.declared.event.Ask.TheVariants.{Answer as Asked}
use Rattle.dns_query.specs.Query.{alias_question}
use Rattle.iterate.specs.declared.phase.Stage.TheVariants as stage
use Rattle.iterate.specs.Measure.{left_of_seek}
use Rattle.iterate.proofs.Asking.{from_more_ok, servers_less, alias_goes}
use Rattle.iterate.proofs.PathTurns.{turned}
use Rattle.history.specs.declared.event.Event.TheVariants.{Look}
use Rattle.iterate.specs.declared.want.Input.{Input}
use Rattle.iterate.specs.Looked.{seen_of, IsReplied}
use Rattle.iterate.specs.Shown.{IsMisanswered}
use Rattle.iterate.proofs.Finding.{failing_seeking, tried_more, seeking_more, seen_same, suited}
use Rattle.iterate.proofs.Arriving.{was_unknown}
use Rattle.iterate.proofs.seeking.alias_came.Goals as goal

pub returns-in_ok-after-in-Some-clause-goes : goal.returns-in_ok-after-in-Some-clause-goes
returns-in_ok-after-in-Some-clause-goes g c = λ port m question before log k adds suits.
    let tried = tried_more port m question before log c.args.search c.args.target stage.Alias c.args.input.now k (was_unknown k.unknown) adds in
    let small = c.in_ok-after-in-Some.ensures.further port question log c.args.target tried tt in
    from_more_ok port question log c.args.moment c.go_on.result refl (alias_goes c.args.search c.in_ok-after-in-Some.after tried.is_search small) (c.go_on.ensures.goes port question log small.is_search small.orderly)

pub returns-else-is_set-clause-goes : goal.returns-else-is_set-clause-goes
returns-else-is_set-clause-goes g c = λ port m question before log k adds suits.
    let more = seeking_more port m question before log c.args.search c.args.target stage.Alias c.args.input.now k k.unknown k.early adds in
    c.seek.ensures.goes port _ (left_of_seek c.args.search stage.Alias) question log more (servers_less c.args.search more.is_search)

pub returns-in-None-clause-goes : goal.returns-in-None-clause-goes
returns-in-None-clause-goes g c = λ port m question before log k adds suits.
    turned c.failed.ensures.phase c.failed.ensures.want (failing_seeking port m question before log c.args.moment _ stage.Alias c.args.search (Asked (alias_question c.args.target)) c.args.input.now k.is_search adds (c.in-None.ensures m suits))

pub returns-in_ok-after-in-Some-clause-asks : goal.returns-in_ok-after-in-Some-clause-asks
returns-in_ok-after-in-Some-clause-asks g c = λ seen input lawful none.
    let replied = subst (λ (i : Input). IsReplied (alias_question c.args.target) i (seen_of c.in-Some.what)) input (c.in-Some.ensures 0 (suited (Look 0 (Asked (alias_question c.args.target))) input)) in
    let same : seen ≡ seen_of c.in-Some.what = seen_same replied.replied in
    let e : ⊥ = cc in absurd e

pub returns-else-is_set-clause-asks : goal.returns-else-is_set-clause-asks
returns-else-is_set-clause-asks g c = λ seen input lawful none. c.seek.ensures.want

pub returns-in-None-clause-asks : goal.returns-in-None-clause-asks
returns-in-None-clause-asks g c = λ seen input lawful none.
    let bad = subst (λ (i : Input). IsMisanswered (Look 0 (Asked (alias_question c.args.target))) i) input (c.in-None.ensures 0 (suited (Look 0 (Asked (alias_question c.args.target))) input)) in
    absurd (bad lawful)
