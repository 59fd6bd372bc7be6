use Rattle.std.proofs.Common.{◌≢◌, ◌∙◌, ℕ, ap, map, refl, subst, sym, arith, inl}
use Rattle.flight.specs.Bounds.{KeepsMost, kept_all}
use Rattle.flight.specs.Waiting.{FlightState, exchange_at, outstanding, waiting_for}
use Rattle.flight.proofs.Bounds.{most_without, none_kept}
use Rattle.flight.proofs.Flights.{origins_then, stays_same, taken_out}
use Rattle.flight.proofs.Places.{joins_none_then}
use Rattle.flight.proofs.Relieving.{accounted_by, ends_by}
use Rattle.flight.proofs.engine.Flight.end_largest.Goals as goal

pub unreachable-requires : goal.unreachable-requires
unreachable-requires g c =
    let table = c.self.inside.table in
    let none = none_kept table.jobs.slots c.largest-key.result c.largest-key.ensures (sym c.in_default.ensures.job) in
    omega (arith, c.requires, none, ap kept_all c.self.view_is)

pub give_up-requires-clause-much : goal.give_up-requires-clause-much
give_up-requires-clause-much g c = omega (arith, c.requires, c.in-Some.ensures.frees.kept, ap kept_all c.self.view_is)

pub give_up-requires-clause-most : goal.give_up-requires-clause-most
give_up-requires-clause-most g c =
    let updates = c.in-Some.ensures.updates in
    most_without c.self.inside.table.jobs.slots c.take.new.self.jobs.slots c.largest-key.result c.in-Some.job updates.others c.largest-key.ensures (sym c.in-Some.ensures.job) updates.changed

pub returns : goal.returns
returns g c =
    let was = c.self.view_is in
    let key = c.largest-key.result in
    let job = c.in-Some.job in
    let updates = c.in-Some.ensures.updates in
    let frees = c.in-Some.ensures.frees in
    let table = c.take.new.self in
    let new : FlightState = record { exchanges = table.jobs.slots; begun = map (λ wait. wait.since) table.waits.items; latest = table.latest; limit = table.limit; tried = table.tried } in
    let fewer = frees.len ∙ ap outstanding was in
    let here = ap (λ (state : FlightState). exchange_at state key) (sym was) ∙ sym c.in-Some.ensures.job in
    let others = λ (other : ℕ) (differs : other ≢ key). updates.others other differs ∙ ap (λ (state : FlightState). exchange_at state other) was in
    let latest = c.in-Some.ensures.latest ∙ ap (λ (state : FlightState). state.latest) was in
    let limit = c.in-Some.ensures.rest.0 ∙ ap (λ (state : FlightState). state.limit) was in
    let tried = c.in-Some.ensures.rest.1 ∙ ap (λ (state : FlightState). state.tried) was in
    let gone = c.give_up.ensures in
    record {
      largest = record {
        key = key;
        waits = λ none. absurd (cc (none, here));
        largest = subst (λ (state : FlightState). KeepsMost state.exchanges key) was c.largest-key.ensures;
        ended = updates.changed;
        others = others;
        begun = ap (map (λ wait. wait.since)) c.in-Some.ensures.waits ∙ ap (λ (state : FlightState). state.begun) was;
        latest = latest;
        limit = limit;
        tried = tried;
      };
      fewer = fewer;
      loses_none = λ now. record {
        port = gone.port;
        ends = ends_by (outstanding new) fewer gone.ends;
        accounted = accounted_by (outstanding new) fewer gone.accounted;
        begins = taken_out now key c.args.self.now new updates.changed others latest;
        no_more = omega (arith, fewer);
        origins = origins_then now key job c.args.self.now new new here updates.changed others (inl (stays_same now _ new new refl));
        joins_none = joins_none_then now job c.args.self.now new new (λ test. ap (waiting_for test) (sym was) ∙ frees.counts test) (inl (stays_same now _ new new refl));
        attempts = inl tried;
        bounded = λ few. omega (arith, table.within.sum, table.within.all);
        limit = limit;
      };
      unheard = gone.unheard;
      unexpired = gone.unexpired;
    }
