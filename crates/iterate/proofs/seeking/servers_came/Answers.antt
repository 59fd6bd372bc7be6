use Rattle.std.proofs.Common.{◌≡◌, ◌<◌, [], sym, ◌∙◌, subst, refl}
use Rattle.std.proofs.lemmas.Result.{IfOk-weaker}
use Rattle.iterate.specs.declared.path.Path.{Path}
use Rattle.iterate.specs.Shown.{IsMisanswered}
use Rattle.iterate.proofs.Opened.{opened_hunt}
use Rattle.history.specs.declared.event.Ask.TheVariants.{Servers as ServersFor}
use Rattle.history.specs.declared.event.Event.TheVariants.{Look}
use Rattle.history.specs.declared.servers.Servers.{Servers}
use Rattle.iterate.specs.declared.phase.Stage.TheVariants as stage
use Rattle.iterate.specs.declared.want.Input.{Input}
use Rattle.iterate.specs.declared.want.Want.TheVariants.{Book}
use Rattle.iterate.specs.Exchanges.{exchange, Adds}
use Rattle.iterate.specs.Hunting.{AsksOneOf, Names}
use Rattle.iterate.specs.Measure.{left_of_seek}
use Rattle.iterate.proofs.Asking.{from_more_ok, goes_on, asks_fresh}
use Rattle.iterate.proofs.PathTurns.{turned}
use Rattle.dns_query.specs.Query.{address_question}
use Rattle.iterate.proofs.Finding.{failing_seeking, seeking_more, named_reached, named_same, suited}
use Rattle.iterate.proofs.seeking.servers_came.Goals as goal

pub returns-in_ok-after-in-Some-clause-goes : goal.returns-in_ok-after-in-Some-clause-goes
returns-in_ok-after-in-Some-clause-goes g c = λ port m question before log k adds suits.
    let named = subst (λ (s : Servers). Names c.args.target c.args.input.now s) (sym c.in_ok-list-in-Some.ensures) c.in-Some.ensures in
    let here = subst (λ (i : Input). Adds before (exchange (Book (Look m (ServersFor c.args.target))) i) log) named.replied adds in
    let more = seeking_more port m question before log c.args.search c.args.target stage.Servers c.args.input.now k k.unknown k.early adds in
    let small = c.in_ok-after-in-Some.ensures.reached port question log [] more (named_reached port before log m (address_question c.args.target) c.in_ok-list-in-Some.list named.zone here) in
    from_more_ok port question log c.args.moment c.go_on.result refl (goes_on c.in_ok-after-in-Some.after (left_of_seek c.args.search stage.Servers) small) (c.go_on.ensures.goes port question log small.is_search small.orderly)

pub returns-in-None-clause-goes : goal.returns-in-None-clause-goes
returns-in-None-clause-goes g c = λ port m question before log k adds suits.
    turned c.failed.ensures.phase c.failed.ensures.want (failing_seeking port m question before log c.args.moment _ stage.Servers c.args.search (ServersFor c.args.target) c.args.input.now k.is_search adds (c.in-None.ensures m suits))

pub returns-in_ok-after-in-Some-clause-asks : goal.returns-in_ok-after-in-Some-clause-asks
returns-in_ok-after-in-Some-clause-asks g c = λ list named few.
    let after = c.in_ok-after-in-Some.after in
    let fresh = opened_hunt c.args.search.frames.items after.frames.items c.args.target c.in_ok-list-in-Some.list after.base c.in_ok-after-in-Some.ensures.opened in
    let few_there = subst (λ (p : Path). p.sent < 64) (sym c.in_ok-after-in-Some.ensures.path) few in
    let same : c.in_ok-list-in-Some.list ≡ list = c.in_ok-list-in-Some.ensures ∙ named_same c.in-Some.ensures named in
    let asked = asks_fresh c.in_ok-list-in-Some.list after c.go_on.result fresh (λ server rest is. c.go_on.ensures.asks server rest is few_there) in
    IfOk-weaker c.go_on.result _ _ (λ t one. subst (λ (s : Servers). AsksOneOf s.addrs t.want) same one) asked

pub returns-in-None-clause-asks : goal.returns-in-None-clause-asks
returns-in-None-clause-asks g c = λ list named few.
    let event = Look 0 (ServersFor c.args.target) in
    let bad = subst (λ (i : Input). IsMisanswered event i) named.replied (c.in-None.ensures 0 (suited event named.replied)) in
    absurd (bad named.zone)
