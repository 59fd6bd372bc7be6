use Rattle.std.proofs.Common.{◌≡◌, ◌∙◌, ◌+◌, ℕ, List, [], Option, Some, is_some, cond, count_by, ap, inr, map, max, refl, subst, sym, arith, rules}
use Rattle.iterate.specs.declared.search.Hunt.{Hunt}
use Rattle.flight.specs.Asking.{origin_in}
use Rattle.flight.specs.Bounds.{MayKeep}
use Rattle.flight.specs.Flight.{query_to}
use Rattle.flight.specs.Kept.{kept_in}
use Rattle.flight.specs.Origin.{Origin}
use Rattle.flight.specs.Places.{HasPlace}
use Rattle.flight.specs.Waiting.{FlightState, Stays, UnderWay, attempted, count_for, is_for}
use Rattle.flight.proofs.Answering.{is_good}
use Rattle.flight.proofs.Flights.{attempted_now, begins, begun_behind}
use Rattle.flight.proofs.Flying.{awaits_at}
use Rattle.flight.proofs.Places.{kept_begun}
use Rattle.flight.proofs.Settling.{same_state, settled_there}
use Rattle.flight.proofs.engine.Flight.send.Goals as goal

pub room_for-requires : goal.room_for-requires
room_for-requires g c = record { sends = (query_to c.args.server.now c.args.over c.args.bytes, c.requires.awaits) }

pub fail-requires-clause-own : goal.fail-requires-clause-own
fail-requires-clause-own g c = rw c.in-Err.ensures.denied.client c.requires.asked.own

pub fail-requires-clause-good : goal.fail-requires-clause-good
fail-requires-clause-good g c = is_good c.requires.asked.good

pub keep-requires-clause-in_time : goal.keep-requires-clause-in_time
keep-requires-clause-in_time g c = rw c.in-Ok.ensures.takes.same (omega (arith, c.since-since.ensures, c.room_for.ensures.limits.0, c.in-Ok.ensures.may_begin.in_time))

pub keep-requires-clause-small : goal.keep-requires-clause-small
keep-requires-clause-small g c = rw c.in-Ok.ensures.takes.same (subst (λ (exchanges : List (Option UnderWay)). MayKeep (kept_in c.args.asking.task.steps.items) exchanges) (sym c.room_for.ensures.exchanges.0) c.in-Ok.ensures.may_begin.small)

pub invariant_of-keep : goal.invariant_of-keep
invariant_of-keep g c =
    let takes = c.in-Ok.ensures.takes in
    let hunt = rw takes.same at c.hunt.ensures in
    rw takes.same (
      rw (sym takes.octets_are) at c.requires.asked,
      awaits_at c.in-Some.ensures.asked c.requires.awaits,
      takes.kept,
      subst (λ (hunt : Option Hunt). g.L.InFlight.listed c.in-Some.line hunt) hunt (c.in-Some.ensures.listed c.in-Some.line refl),
    )

pub returns-in-Err-clause-settles : goal.returns-in-Err-clause-settles
returns-in-Err-clause-settles g c =
    let was = c.self.view_is in
    let room = c.room_for.ensures in
    let table = c.room_for.new.self in
    let new : FlightState = record { exchanges = table.jobs.slots; begun = map (λ wait. wait.since) table.waits.items; latest = table.latest; limit = table.limit; tried = table.tried } in
    let stays : Stays c.args.now (λ o. o ≡ origin_in g.K.Client.network c.args.asking) c.args.self.now new = record {
      same = same_state (attempted table.tried c.args.self.now) new (room.exchanges.0 ∙ ap (λ (state : FlightState). state.exchanges) was) (ap (map (λ wait. wait.since)) room.exchanges.1 ∙ ap (λ (state : FlightState). state.begun) was)
          (room.limits.0 ∙ ap (λ (state : FlightState). state.latest) was) (room.limits.1 ∙ ap (λ (state : FlightState). state.limit) was) refl;
      attempts = inr (attempted_now c.args.now (origin_in g.K.Client.network c.args.asking) table.tried room.tried);
    } in
    settled_there c.args.now c.args.self.now new c.args.sockets.now c.args.sockets.now c.fail.new.self c.args.octets.now c.requires.asked.own (record { port = refl; silent = refl }) refl stays
    (rw c.in-Err.ensures.denied.client at c.fail.ensures)

-- The table has noted only who asked for a place, and when.
pub returns-in_default-clause-same : goal.returns-in_default-clause-same
returns-in_default-clause-same g c =
    let was = c.self.view_is in
    let room = c.room_for.ensures in
    same_state _ _ (room.exchanges.0 ∙ ap (λ (state : FlightState). state.exchanges) was) (ap (map (λ wait. wait.since)) room.exchanges.1 ∙ ap (λ (state : FlightState). state.begun) was)
    (room.limits.0 ∙ ap (λ (state : FlightState). state.latest) was) (room.limits.1 ∙ ap (λ (state : FlightState). state.limit) was) room.tried

pub returns-in_default-clause-unsent : goal.returns-in_default-clause-unsent
returns-in_default-clause-unsent g c = (c.in-Ok.ensures.takes.same, c.in_default.ensures.failed)

pub returns-in_default-clause-counts : goal.returns-in_default-clause-counts
returns-in_default-clause-counts g c = c.in_default.ensures.unopened

pub returns-in_default-clause-keeps : goal.returns-in_default-clause-keeps
returns-in_default-clause-keeps g c = c.open.ensures.keeps

pub returns-clause-settles : goal.returns-clause-settles
returns-clause-settles g c =
    let was = c.self.view_is in
    let room = c.room_for.ensures in
    let table = c.room_for.new.self in
    let kept = c.keep.new.self in
    let one_more = rw c.in-Ok.ensures.takes.same at c.keep.ensures.one_more in
    let limit = c.keep.ensures.rest.0 ∙ room.limits.1 ∙ ap (λ (state : FlightState). state.limit) was in
    let now_is = c.since-since.ensures ∙ ap (λ (latest : ℕ). max c.args.now latest) (room.limits.0 ∙ ap (λ (state : FlightState). state.latest) was) in
    let begun = begun_behind table.waits.items kept.waits.items (record { key = table.jobs.vacant_key; since = c.since-since.result }) c.args.self.now.begun c.keep.ensures.waits
    (ap (map (λ wait. wait.since)) room.exchanges.1 ∙ ap (λ (state : FlightState). state.begun) was)
    in
    let new : FlightState = record { exchanges = kept.jobs.slots; begun = map (λ wait. wait.since) kept.waits.items; latest = kept.latest; limit = kept.limit; tried = kept.tried } in
    let origin : Origin = origin_in g.K.Client.network c.args.asking in
    let exchange : UnderWay = record { since = c.since-since.result; asked = g.L.InFlight.asked c.in-Some.line; key = g.L.InFlight.key c.in-Some.line; origin = origin; kept = kept_in c.args.asking.task.steps.items } in
    let same = room.exchanges.0 ∙ ap (λ (state : FlightState). state.exchanges) was in
    let moment = max c.args.now c.self.inside.table.latest in
    let place : HasPlace moment origin table.asker c.args.self.now.exchanges kept.limit = subst (λ (limit : ℕ). HasPlace moment origin table.asker c.args.self.now.exchanges limit) (ap (λ (state : FlightState). state.limit) was ∙ sym limit)
    (subst (λ (exchanges : List (Option UnderWay)). HasPlace moment origin table.asker exchanges c.self.inside.table.limit) (ap (λ (state : FlightState). state.exchanges) was) c.in-Ok.ensures.may_begin.place)
    in
    record {
      port = c.open.ensures.keeps.port;
      ends = record {
        ends = [];
        left = c.open.ensures.keeps.silent;
        count = omega (arith, one_more.len, ap (λ (exchanges : List (Option UnderWay)). count_by is_some exchanges) same);
      };
      own = tt;
      accounted = search rules;
      unheard = search rules;
      unexpired = search rules;
      waits = inr (begins c.args.now (λ o. o ≡ origin) c.args.self.now new
          table.jobs kept.jobs exchange c.since-since.result same refl c.keep.ensures.vacant one_more.updates one_more.len
          refl (c.in-Some.ensures.watched ∙ c.vacant_key-key.ensures) refl now_is begun c.keep.ensures.latest limit (attempted_now c.args.now origin kept.tried (c.keep.ensures.rest.1 ∙ room.tried)));
      within = λ few. omega (arith, place.free, limit, one_more.len, ap (λ (exchanges : List (Option UnderWay)). count_by is_some exchanges) same);
      places = kept_begun moment origin table.asker exchange c.args.self.now new refl place
          (λ test. one_more.counts test ∙ ap (λ (exchanges : List (Option UnderWay)). count_for test exchanges + cond (is_for test (Some exchange)) 1 0) same)
          (one_more.len ∙ ap (λ (exchanges : List (Option UnderWay)). count_by is_some exchanges + 1) same);
      bounded = λ few. omega (arith, kept.within.sum, kept.within.all);
      limit = limit;
    }
