use Rattle.std.proofs.Common.{◌≢◌, ◌∙◌, ℕ, List, Option, ap, map, refl, subst, sym, arith}
use Rattle.slab.specs.Slab.{Slab}
use Rattle.flight.specs.FirstLook.{ListensTo, listens_to, passes, stays}
use Rattle.flight.specs.Waiting.{FlightState, IsAccounted, UnderWay, exchange_at, outstanding, since_at, since_in, since_of, waiting_for}
use Rattle.flight.proofs.Accounting.{accounted_then}
use Rattle.flight.proofs.Flights.{attempts_on, attempts_then, begun_or_not, early_then, less_over, no_more_then, on_or_begun_then, origins_on, origins_then, taken_out}
use Rattle.flight.proofs.Leaving.{ends_of, ends_then}
use Rattle.flight.proofs.Places.{joins_none_on, joins_none_then}
use Rattle.flight.proofs.Settling.{loses_as_before, none_lost}
use Rattle.flight.proofs.engine.Flight.expire.Goals as goal

pub loop-wait-init : goal.loop-wait-init
loop-wait-init g c = record { early = λ key since here left. here; anew = stays; so_far = none_lost c.args.now c.args.self.now c.args.self.now c.args.sockets.now refl }

pub loop-wait-smaller-in-Some-pass : goal.loop-wait-smaller-in-Some-pass
loop-wait-smaller-in-Some-pass g c =
    let first = ap (λ (state : FlightState). state.begun) (sym c.self.view_is) ∙ ap (map (λ wait. wait.since)) c.in-Some-pass.ensures.waits in
    less_over c.args.now c.in-Some.wait.since _ c.loop-wait.self _ c.end.new.self first c.in-Some.ensures.first_due.due c.end.ensures.waits

pub loop-wait-preserved : goal.loop-wait-preserved
loop-wait-preserved g c =
    let before = c.loop-wait.invariant in
    let was = c.self.view_is in
    let same = c.pass.ensures.none c.in_default-pass.is in
    let exchanges = ap (λ (jobs : Slab UnderWay). jobs.slots) same ∙ ap (λ (state : FlightState). state.exchanges) was in
    record {
      early = λ key since here left. ap (λ (list : List (Option UnderWay)). since_in list key) exchanges ∙ before.early key since here left;
      anew = passes before.anew exchanges;
      so_far = loses_as_before c.args.now c.args.self.now c.loop-wait.self _ c.args.sockets.now c.loop-wait.sockets before.so_far exchanges
          (c.pass.ensures.latest ∙ ap (λ (state : FlightState). state.latest) was) (c.pass.ensures.rest.0 ∙ ap (λ (state : FlightState). state.limit) was)
          (c.pass.ensures.rest.1 ∙ ap (λ (state : FlightState). state.tried) was);
    }

pub loop-wait-preserved-in-Some-pass : goal.loop-wait-preserved-in-Some-pass
loop-wait-preserved-in-Some-pass g c =
    let before = c.loop-wait.invariant in
    let was = c.self.view_is in
    let key = c.in-Some.wait.key in
    let due = c.in-Some-pass.ensures.due in
    let fewer = c.in-Some-pass.ensures.len ∙ ap outstanding was in
    let after = subst (λ (waiting : ℕ). IsAccounted 0 waiting (g.O.Sockets.counts c.loop-wait.sockets) (outstanding c.end.new.self) (g.O.Sockets.counts c.end.new.sockets)) fewer c.end.ensures.accounted in
    let others = λ (other : ℕ) (differs : other ≢ key). c.in-Some-pass.ensures.taken.others other differs ∙ ap (λ (state : FlightState). exchange_at state other) was in
    let here = ap (λ (state : FlightState). exchange_at state key) (sym was) ∙ due.0 in
    let waits = c.end.ensures.waits in
    let table = c.pass.new.self in
    let without : FlightState = record { exchanges = table.jobs.slots; begun = map (λ wait. wait.since) table.waits.items; latest = table.latest; limit = table.limit; tried = table.tried } in
    let there : ListensTo g.D.Desk.calls g.O.Sockets.listens g.O.Sockets.outbox key c.in-Some-pass.job c.loop-wait.desk c.loop-wait.self c.loop-wait.sockets c.end.new.desk c.end.new.self c.end.new.sockets =
    record { without = without; gone = c.in-Some-pass.ensures.taken.changed; others = others; hears = c.end.ensures.anew }
    in
    let out = taken_out c.args.now key c.loop-wait.self _ c.in-Some-pass.ensures.taken.changed others
    (c.in-Some-pass.ensures.latest ∙ ap (λ (state : FlightState). state.latest) was)
    in
    record {
      early = early_then 2000 c.args.now key c.in-Some-pass.job.since _ c.args.self.now c.loop-wait.self _ c.end.new.self before.early (ap (λ (state : FlightState). since_at state key) (sym was) ∙ ap since_of due.0) due.1
          (λ other differs. ap since_of (c.in-Some-pass.ensures.taken.others other differs) ∙ ap (λ (state : FlightState). since_at state other) was) c.end.ensures.waits;
      anew = listens_to {key = key} {exchange = c.in-Some-pass.job} before.anew here there;
      so_far = record {
        port = c.end.ensures.port ∙ before.so_far.port;
        ends = ends_then before.so_far.ends (ends_of 0 _ (omega (arith, fewer)) c.end.ensures.ends);
        accounted = accounted_then 0 0 _ _ _ _ _ _ before.so_far.accounted after;
        begins = on_or_begun_then c.args.now c.args.self.now c.loop-wait.self c.end.new.self before.so_far.begins
            (on_or_begun_then c.args.now c.loop-wait.self _ c.end.new.self out (begun_or_not c.args.now _ _ c.end.new.self waits));
        no_more = omega (arith, no_more_then c.args.now (outstanding c.loop-wait.self) _ _ c.end.new.self fewer waits, before.so_far.no_more);
        origins = origins_on c.args.self.now c.loop-wait.self c.end.new.self before.so_far.origins
            (origins_then c.args.now key c.in-Some-pass.job c.loop-wait.self _ c.end.new.self here c.in-Some-pass.ensures.taken.changed others waits);
        joins_none = joins_none_on c.args.self.now c.loop-wait.self c.end.new.self before.so_far.joins_none
            (joins_none_then c.args.now c.in-Some-pass.job c.loop-wait.self _ c.end.new.self (λ test. ap (waiting_for test) (sym was) ∙ c.in-Some-pass.ensures.counts test) waits);
        attempts = attempts_on c.args.now c.args.self.now c.loop-wait.self c.end.new.self before.so_far.origins before.so_far.attempts
            (attempts_then c.args.now key c.in-Some-pass.job c.loop-wait.self _ c.end.new.self here (c.in-Some-pass.ensures.rest.1 ∙ ap (λ (state : FlightState). state.tried) was) waits);
        bounded = λ few. c.end.ensures.bounded (omega (arith, c.pass.new.self.within.sum, c.pass.new.self.within.all));
        limit = c.end.ensures.limit ∙ c.in-Some-pass.ensures.rest.0 ∙ ap (λ (state : FlightState). state.limit) was ∙ before.so_far.limit;
      };
    }
