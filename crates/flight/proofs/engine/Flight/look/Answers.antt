use Rattle.std.proofs.Common.{◌≡◌, ◌≢◌, ◌∙◌, ℕ, ap, arith, inl, map, refl, rules, subst, sym}
use Rattle.slab.specs.Slab.{Slab}
use Rattle.flight.specs.Bounds.{MayKeep}
use Rattle.flight.specs.Flight.{Sent}
use Rattle.flight.specs.Kept.{kept_in}
use Rattle.flight.specs.Table.{OneMore}
use Rattle.flight.specs.Asking.{origin_in}
use Rattle.flight.specs.Origin.{Origin, zone_of}
use Rattle.flight.specs.declared.sockets.Listened.TheVariants.{Nothing}
use Rattle.flight.specs.Waiting.{FlightState, UnderWay, exchange_at, outstanding, waiting_for}
use Rattle.flight.proofs.Bounds.{may_keep_again}
use Rattle.flight.proofs.Flights.{as_it_was, attempts_then, begun_or_not, no_more_then, on_or_begun_then, origins_same, origins_then, put_back_same, taken_out, waits_as}
use Rattle.flight.proofs.Leaving.{ends_behind, ends_of, none_ends}
use Rattle.flight.proofs.Looking.{hears_out, listens_there}
use Rattle.flight.proofs.Places.{joins_none_then}
use Rattle.flight.proofs.Settling.{none_lost, same_state}
use Rattle.flight.proofs.engine.Flight.look.Goals as goal

-- an exchange, by its parts
abbrev make : ℕ → Sent → ℕ → Origin → ℕ → UnderWay
make since asked key origin kept = record { since = since; asked = asked; key = key; origin = origin; kept = kept }

pub returns-in-Nothing-clause-loses_none : goal.returns-in-Nothing-clause-loses_none
returns-in-Nothing-clause-loses_none g c =
    let was = c.self.view_is in
    let taken = c.in-Some.ensures.frees in
    let origin : Origin = origin_in g.K.Client.network c.job.inside.asking in
    let kept = kept_in c.job.inside.asking.task.steps.items in
    let back_is = ap (λ (asked : Sent). make c.job.inside.since asked (g.L.InFlight.key c.hear.new.line) origin kept) c.hear.ensures.asked ∙ ap (λ (key : ℕ). make c.job.inside.since (g.L.InFlight.asked c.job.inside.line) key origin kept) c.hear.ensures.watched ∙ c.job.view_is in
    let back = subst (λ (job : UnderWay). OneMore c.take.new.self.jobs c.put_back.new.self.jobs c.take.new.self.jobs.vacant_key job) back_is c.put_back.ensures.one_more in
    let same = put_back_same c.self.inside.table.jobs c.take.new.self.jobs c.put_back.new.self.jobs c.args.key c.in-Some.job c.in-Some.ensures.job c.in-Some.ensures.updates taken.key_is_next
    back.updates
    in
    let table = c.put_back.new.self in
    let new : FlightState = record { exchanges = table.jobs.slots; begun = map (λ wait. wait.since) table.waits.items; latest = table.latest; limit = table.limit; tried = table.tried } in
    record {
      port = c.hear.ensures.keeps.port;
      ends = none_ends 0 _ _ c.hear.ensures.keeps.silent (omega (arith, back.len, taken.len, ap outstanding was));
      accounted = search rules;
      begins = as_it_was c.args.now c.args.self.now new (λ key. same key ∙ ap (λ (state : FlightState). exchange_at state key) was)
          (c.put_back.ensures.latest ∙ c.in-Some.ensures.latest ∙ ap (λ (state : FlightState). state.latest) was);
      no_more = omega (arith, back.len, taken.len, ap outstanding was);
      origins = origins_same c.args.self.now new (λ key. same key ∙ ap (λ (state : FlightState). exchange_at state key) was);
      joins_none = λ test. omega (arith, back.counts test, taken.counts test, ap (waiting_for test) was);
      attempts = inl (c.put_back.ensures.rest.1 ∙ c.in-Some.ensures.rest.1 ∙ ap (λ (state : FlightState). state.tried) was);
      bounded = λ few. omega (arith, table.within.sum, table.within.all);
      limit = c.put_back.ensures.rest.0 ∙ c.in-Some.ensures.rest.0 ∙ ap (λ (state : FlightState). state.limit) was;
    }

pub returns-in_default-hear-clause-loses_none : goal.returns-in_default-hear-clause-loses_none
returns-in_default-hear-clause-loses_none g c =
    let was = c.self.view_is in
    let taken = c.in-Some.ensures.frees in
    let updates = c.in-Some.ensures.updates in
    let others = λ (other : ℕ) (differs : other ≢ c.args.key). updates.others other differs ∙ ap (λ (state : FlightState). exchange_at state other) was in
    let out = taken_out c.args.now c.args.key c.args.self.now _ updates.changed others
    (c.in-Some.ensures.latest ∙ ap (λ (state : FlightState). state.latest) was)
    in
    let waits = waits_as c.args.now (λ o. o ≡ origin_in g.K.Client.network c.job.inside.asking) (λ o. o ≡ c.in-Some.job.origin) _ c.go_on.new.self c.go_on.ensures.settles.waits (λ o is. is ∙ ap (λ (job : UnderWay). job.origin) c.job.view_is) in
    let here = ap (λ (state : FlightState). exchange_at state c.args.key) (sym was) ∙ sym c.in-Some.ensures.job in
    record {
      port = c.go_on.ensures.settles.port ∙ c.hear.ensures.keeps.port;
      ends = ends_of 0 _ (omega (arith, taken.len, ap outstanding was)) (ends_behind c.hear.ensures.keeps.silent c.go_on.ensures.settles.ends);
      accounted = search rules;
      begins = on_or_begun_then c.args.now c.args.self.now _ c.go_on.new.self out (begun_or_not c.args.now _ _ c.go_on.new.self c.go_on.ensures.settles.waits);
      no_more = no_more_then c.args.now (outstanding c.args.self.now) _ _ c.go_on.new.self (taken.len ∙ ap outstanding was) c.go_on.ensures.settles.waits;
      origins = origins_then c.args.now c.args.key c.in-Some.job c.args.self.now _ c.go_on.new.self here updates.changed others waits;
      joins_none = joins_none_then c.args.now c.in-Some.job c.args.self.now _ c.go_on.new.self (λ test. ap (waiting_for test) (sym was) ∙ taken.counts test) waits;
      attempts = attempts_then c.args.now c.args.key c.in-Some.job c.args.self.now _ c.go_on.new.self here (c.in-Some.ensures.rest.1 ∙ ap (λ (state : FlightState). state.tried) was) waits;
      bounded = λ few. c.go_on.ensures.settles.bounded (omega (arith, c.take.new.self.within.sum, c.take.new.self.within.all));
      limit = c.go_on.ensures.settles.limit ∙ c.in-Some.ensures.rest.0 ∙ ap (λ (state : FlightState). state.limit) was;
    }

pub returns-in_default-clause-loses_none : goal.returns-in_default-clause-loses_none
returns-in_default-clause-loses_none g c =
    let was = c.self.view_is in
    let taken = c.in_default.ensures in
    let jobs = taken.none refl in
    none_lost _ _ _ _ (same_state _ _ (ap (λ (slab : Slab UnderWay). slab.slots) jobs ∙ ap (λ (state : FlightState). state.exchanges) was)
    (ap (map (λ wait. wait.since)) taken.waits ∙ ap (λ (state : FlightState). state.begun) was)
    (taken.latest ∙ ap (λ (state : FlightState). state.latest) was) (taken.rest.0 ∙ ap (λ (state : FlightState). state.limit) was) (taken.rest.1 ∙ ap (λ (state : FlightState). state.tried) was))

pub put_back-requires-clause-in_time : goal.put_back-requires-clause-in_time
put_back-requires-clause-in_time g c =
    omega (
      arith,
      c.self.inside.table.in_time c.args.key c.in-Some.job (sym c.in-Some.ensures.job),
      ap (λ (job : UnderWay). job.since) c.job.view_is,
      ap (λ (job : UnderWay). job.origin.began) c.job.view_is,
    )

pub put_back-requires-clause-small : goal.put_back-requires-clause-small
put_back-requires-clause-small g c =
    let table = c.self.inside.table in
    subst (λ (kept : ℕ). MayKeep kept c.take.new.self.jobs.slots) (sym (ap (λ (job : UnderWay). job.kept) c.job.view_is))
    (may_keep_again table.jobs.slots c.take.new.self.jobs.slots c.args.key table.kept c.in-Some.job table.within (sym c.in-Some.ensures.job) c.in-Some.ensures.frees.kept)

pub returns-in-Nothing-clause-anew : goal.returns-in-Nothing-clause-anew
returns-in-Nothing-clause-anew g c =
    let was = c.self.view_is in
    let updates = c.in-Some.ensures.updates in
    let question = c.job.inside.asking.query.question in
    let of : UnderWay → Type 0 = λ job. job.origin.zone ≡ zone_of question.owner in
    let table = c.take.new.self in
    let without : FlightState = record { exchanges = table.jobs.slots; begun = map (λ wait. wait.since) table.waits.items; latest = table.latest; limit = table.limit; tried = table.tried } in
    let back = c.put_back.new.self in
    let new : FlightState = record { exchanges = back.jobs.slots; begun = map (λ wait. wait.since) back.waits.items; latest = back.latest; limit = back.limit; tried = back.tried } in
    let outbox = g.O.Sockets.outbox in
    let hears = hears_out g.D.Desk.calls g.O.Sockets.listens outbox c.in-Some.job c.args.desk.now c.args.desk.now without new c.args.sockets.now c.hear.new.sockets c.hear.new.sockets c.hear.new.sockets
    question c.job.inside.line Nothing (subst of c.job.view_is refl) c.in-Nothing.ensures.listens c.hear.ensures.keeps.silent (λ anew. absurd (cc anew))
    in
    listens_there g.D.Desk.calls g.O.Sockets.listens outbox c.args.key c.in-Some.job c.args.desk.now c.args.desk.now c.args.self.now without new c.args.sockets.now c.hear.new.sockets
    (ap (λ (state : FlightState). exchange_at state c.args.key) (sym was) ∙ sym c.in-Some.ensures.job)
    updates.changed (λ other differs. updates.others other differs ∙ ap (λ (state : FlightState). exchange_at state other) was) hears

pub returns-in_default-hear-clause-anew : goal.returns-in_default-hear-clause-anew
returns-in_default-hear-clause-anew g c =
    let was = c.self.view_is in
    let updates = c.in-Some.ensures.updates in
    let question = c.job.inside.asking.query.question in
    let of : UnderWay → Type 0 = λ job. job.origin.zone ≡ zone_of question.owner in
    let table = c.take.new.self in
    let without : FlightState = record { exchanges = table.jobs.slots; begun = map (λ wait. wait.since) table.waits.items; latest = table.latest; limit = table.limit; tried = table.tried } in
    let outbox = g.O.Sockets.outbox in
    let hears = hears_out g.D.Desk.calls g.O.Sockets.listens outbox c.in-Some.job c.args.desk.now c.go_on.new.desk without c.go_on.new.self c.args.sockets.now c.hear.new.sockets c.hear.new.sockets c.go_on.new.sockets
    question c.job.inside.line _ (subst of c.job.view_is refl) c.hear.ensures.listens c.hear.ensures.keeps.silent c.go_on.ensures.anew
    in
    listens_there g.D.Desk.calls g.O.Sockets.listens outbox c.args.key c.in-Some.job c.args.desk.now c.go_on.new.desk c.args.self.now without c.go_on.new.self c.args.sockets.now c.go_on.new.sockets
    (ap (λ (state : FlightState). exchange_at state c.args.key) (sym was) ∙ sym c.in-Some.ensures.job)
    updates.changed (λ other differs. updates.others other differs ∙ ap (λ (state : FlightState). exchange_at state other) was) hears
