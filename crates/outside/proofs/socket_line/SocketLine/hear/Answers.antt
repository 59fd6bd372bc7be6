use Rattle.std.proofs.Common.{◌≡◌, ◌∙◌, ℕ, List, inr, refl, rules, subst}
use Rattle.std.specs.Prelude.{option_map}
use Rattle.history.specs.declared.servers.Servers.{Servers}
use Rattle.flight.specs.Flight.{query_to}
use Rattle.outside.specs.Exchanges.{ExchangeState, HasMisfit, is_ended}
use Rattle.outside.specs.Exchanges.IsBroken.{misfit}
use Rattle.outside.proofs.Hearing.{broken, dear, quiet, struck, under_as}
use Rattle.outside.proofs.socket_line.SocketLine.hear.Goals as goal

pub invariant_of-self : goal.invariant_of-self
invariant_of-self g c =
    let nothing = rw c.in-Some-Nothing.field-0-is at c.in-Some-Nothing.is in
    let inside = c.self.inside in
    let before : ExchangeState = record {
      asked = query_to inside.server inside.over inside.query;
      token = inside.token;
      zone = option_map (λ (list : Servers). list.zone) inside.list;
      waits = inside.waits;
      flaw = inside.flaw;
      ended = is_ended inside.way;
    } in
    under_as _ _ _ _ _ _ _ before _ c.hear.new.self (c.hear.ensures.goes_on nothing _ c.self.invariant)

pub returns-else-is_too_dear-clause-heard : goal.returns-else-is_too_dear-clause-heard
returns-else-is_too_dear-clause-heard g c =
    rw (← c.self.view_is) (rw c.in-Some.is at (c.hear.ensures.heard _ (search rules) c.self.invariant))

pub returns-in-Some-Nothing-clause-nothing : goal.returns-in-Some-Nothing-clause-nothing
returns-in-Some-Nothing-clause-nothing g c =
    let nothing = rw c.in-Some-Nothing.field-0-is at c.in-Some-Nothing.is in
    rw (← c.self.view_is) (λ is. quiet _ _ _ _ _ _ _ _ g.R.Datagrams.ReadySocket.reported_again _ c.hear.new.self (c.hear.ensures.goes_on nothing _ c.self.invariant) (c.hear.ensures.nothing nothing))

pub returns-in-None-clause-struck : goal.returns-in-None-clause-struck
returns-in-None-clause-struck g c =
    let same : c.as_slice-query.result.now ≡ c.self.inside.query = c.as_slice-query.ensures ∙ c.get.ensures in
    let misfit = subst (λ (query : List ℕ). HasMisfit g.R.Datagrams.ReadySocket.came query c.self.inside.way) same (c.hear.ensures.misfits (search rules)) in
    rw (← c.self.view_is) (λ is. inr (struck _ _ _ _ _ _ _ _ _ c.self.inside.way c.self.invariant misfit))

pub returns-else-is_too_dear-clause-broken : goal.returns-else-is_too_dear-clause-broken
returns-else-is_too_dear-clause-broken g c =
    rw (← c.self.view_is) (λ is. broken _ _ _ _ _ (c.hear.ensures.broken _ refl c.self.invariant (search rules)))

pub returns-then-is_too_dear-clause-broken : goal.returns-then-is_too_dear-clause-broken
returns-then-is_too_dear-clause-broken g c =
    rw (← c.self.view_is) (λ is. dear _ _ _ _ _ c.in-Some.heard (rw c.in-Some.is at (c.hear.ensures.heard _ (search rules) c.self.invariant)) (c.is_too_dear.ensures c.if-is_too_dear.true))

pub returns-in-None-clause-broken : goal.returns-in-None-clause-broken
returns-in-None-clause-broken g c =
    let same : c.as_slice-query.result.now ≡ c.self.inside.query = c.as_slice-query.ensures ∙ c.get.ensures in
    let misfits = subst (λ (query : List ℕ). HasMisfit g.R.Datagrams.ReadySocket.came query c.self.inside.way) same (c.hear.ensures.misfits (search rules)) in
    rw (← c.self.view_is) (λ is. misfit (struck _ _ _ _ _ _ _ _ _ c.self.inside.way c.self.invariant misfits))

pub returns-else-is_too_dear-clause-anew : goal.returns-else-is_too_dear-clause-anew
returns-else-is_too_dear-clause-anew g c =
    rw (← c.self.view_is) (λ is. c.hear.ensures.anew _ c.self.invariant (search rules))
