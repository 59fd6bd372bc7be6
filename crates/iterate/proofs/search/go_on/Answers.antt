use Rattle.std.proofs.Common.{◌≡◌, ◌<◌, [], ap, sym, ◌∙◌, subst, rules}
use Rattle.iterate.specs.declared.search.NextMove.{NextMove}
use Rattle.iterate.specs.Hunting.{IsNextStep, IsTried}
use Rattle.dns_query.specs.declared.over.Over.TheVariants.{Udp}
use Rattle.iterate.specs.Measure.{left_of_search}
use Rattle.iterate.specs.declared.search.Search.{Search}
use Rattle.iterate.specs.Searching.{IsNextServer, Turn, hunt_of}
use Rattle.iterate.specs.Phase.{Goes, drawing}
use Rattle.rand_core.specs.Stream.{Stream}
use Rattle.iterate.proofs.Asking.{at_most, from_more_ok, address_less, smaller_stays, giving_up, asks_same, same_first}
use Rattle.iterate.proofs.PathTurns.{less_left, turned}
use Rattle.iterate.proofs.Lists.{next_within}
use Rattle.iterate.proofs.Opened.{may_be_sought}
use Rattle.iterate.proofs.Supplying.{hunts_fall, asked_not}
use Rattle.iterate.proofs.search.go_on.Goals as goal

pub returns-in-Ask-clause-goes : goal.returns-in-Ask-clause-goes
returns-in-Ask-clause-goes g c = λ port question log s o.
    let at = c.going.invariant.going port question log s o in
    let next = subst (λ (n : NextMove). IsNextStep c.going.current n) c.in-Ask.is c.in_ok-server.ensures in
    let behind = g.R.Rng.stream c.ask.new.ids in
    let here : g.R.Rng.stream c.going.ids ≡ g.R.Rng.stream c.args.ids.now = cc in
    let same : drawing (g.R.Rng.stream c.going.ids) behind ≡ drawing (g.R.Rng.stream c.args.ids.now) behind = ap (λ (s : Stream). drawing s behind) here in
    from_more_ok port question log c.args.moment c.ask.result same at.1 (c.ask.ensures.goes port c.args.moment question log next.0 at.0 next.1 at.2)

pub returns-in-Seek-clause-goes : goal.returns-in-Seek-clause-goes
returns-in-Seek-clause-goes g c = λ port question log s o.
    let at = c.going.invariant.going port question log s o in
    let next = subst (λ (n : NextMove). IsNextStep c.going.current n) c.in-Seek.is c.in_ok-server.ensures in
    let stream = g.R.Rng.stream c.going.ids in
    let here : stream ≡ g.R.Rng.stream c.args.ids.now = cc in
    from_more_ok port question log c.args.moment c.seek.result (ap (λ (s : Stream). drawing s stream) here) (at_most (left_of_search c.args.search 4))
    (c.seek.ensures.goes port stream (left_of_search c.args.search 4) question log record { is_search = at.0; shallow = next.1.shallow; next = next.0; unknown = tt; early = tt; orderly = at.2; other = next.1.other } (address_less c.going.current (left_of_search c.args.search 4) at.0 at.1))

pub going-smaller-in-Pass : goal.going-smaller-in-Pass
going-smaller-in-Pass g c =
    let next = subst (λ (n : NextMove). IsNextStep c.going.current n) c.in-Pass.is c.in_ok-server.ensures in
    hunts_fall c.going.current.frames.items c.in_ok-current-in-Pass.current.frames.items c.going.current.base c.in_ok-current-in-Pass.current.base []
    (next_within (hunt_of c.going.current).sought (hunt_of c.going.current).servers.missing next.0 next.1.rest next.1.next) c.in_ok-current-in-Pass.ensures.supplied

pub going-preserved-in-Pass : goal.going-preserved-in-Pass
going-preserved-in-Pass g c =
    let next = subst (λ (n : NextMove). IsNextStep c.going.current n) c.in-Pass.is c.in_ok-server.ensures in
    record {
      same = c.going.invariant.same;
      first = λ server rest is. absurd (asked_not (hunt_of c.going.current) server rest (subst (λ (x : Search). IsNextServer x server rest) (sym (c.going.invariant.first server rest is)) is) next.3);
      going = λ port question log s o.
          let at = c.going.invariant.going port question log s o in
          let tried : IsTried port question log c.going.current next.0 [] = record { is_search = at.0; next = next.1; orderly = at.2; tried = λ none may. absurd (next.2 (may_be_sought c.going.current next.0 none may)) } in
          smaller_stays c.going.current c.in_ok-current-in-Pass.current (left_of_search c.args.search 4) at.0 (c.in_ok-current-in-Pass.ensures.further port question log next.0 tried tt) at.1;
    }

pub returns-then-is_outermost-clause-goes : goal.returns-then-is_outermost-clause-goes
returns-then-is_outermost-clause-goes g c = λ port question log s o.
    let at = c.going.invariant.going port question log s o in
    let next = subst (λ (n : NextMove). IsNextStep c.going.current n) c.in-Close.is c.in_ok-server.ensures in
    let none : c.going.current.frames.items ≡ [] = c.if-is_outermost.ensures.outermost (search rules) in
    let stream = g.R.Rng.stream c.going.ids in
    let here : stream ≡ g.R.Rng.stream c.args.ids.now = cc in
    subst (λ (s : Stream). Goes port question log c.args.moment (drawing s stream) (left_of_search c.args.search 4) c.failed.result.phase c.failed.result.want) here
    (turned c.failed.ensures.phase c.failed.ensures.want (less_left at.1 (giving_up port question log c.args.moment stream 4 c.going.current at.0 none next.0 next.1)))

pub going-preserved : goal.going-preserved
going-preserved g c =
    let next = subst (λ (n : NextMove). IsNextStep c.going.current n) c.in-Close.is c.in_ok-server.ensures in record {
      same = c.going.invariant.same;
      first = λ server rest is. absurd (asked_not (hunt_of c.going.current) server rest (subst (λ (x : Search). IsNextServer x server rest) (sym (c.going.invariant.first server rest is)) is) next.0);
      going = λ port question log s o.
          let at = c.going.invariant.going port question log s o in
          smaller_stays c.going.current c.in_ok-current-in-Close.current (left_of_search c.args.search 4) at.0 (c.in_ok-current-in-Close.ensures.further port question log Turn.unasked at.0 at.2 tt) at.1;
    }

pub returns-in-Ask-clause-asks : goal.returns-in-Ask-clause-asks
returns-in-Ask-clause-asks g c = λ server rest is few.
    let next = subst (λ (n : NextMove). IsNextStep c.going.current n) c.in-Ask.is c.in_ok-server.ensures in
    let same = c.going.invariant.first server rest is in
    let there = subst (λ (x : Search). IsNextServer x server rest) (sym same) is in
    asks_same Udp c.ask.result (same_first (sym next.1 ∙ there)) (c.ask.ensures.query (subst (λ (x : Search). x.path.sent < 64) (sym same) few))

pub returns-in-Seek-clause-asks : goal.returns-in-Seek-clause-asks
returns-in-Seek-clause-asks g c = λ server rest is few.
    let next = subst (λ (n : NextMove). IsNextStep c.going.current n) c.in-Seek.is c.in_ok-server.ensures in
    absurd (asked_not (hunt_of c.going.current) server rest (subst (λ (x : Search). IsNextServer x server rest) (sym (c.going.invariant.first server rest is)) is) next.2)

pub returns-then-is_outermost-clause-asks : goal.returns-then-is_outermost-clause-asks
returns-then-is_outermost-clause-asks g c = λ server rest is few.
    let next = subst (λ (n : NextMove). IsNextStep c.going.current n) c.in-Close.is c.in_ok-server.ensures in
    absurd (asked_not (hunt_of c.going.current) server rest (subst (λ (x : Search). IsNextServer x server rest) (sym (c.going.invariant.first server rest is)) is) next.0)
