-- A client that is settled.
use Rattle.std.proofs.Common.{◌≡◌, ◌∙◌, ℕ, List, [], ◌∷◌, Option, is_some, count_by, ap, inl, inr, refl, subst, sym, arith}
use Rattle.flight.specs.declared.counts.Counts.{Counts}
use Rattle.flight.specs.declared.table.BeginAttempt.{BeginAttempt}
use Rattle.flight.specs.Bounds.{kept_all, kept_by}
use Rattle.flight.specs.Clients.{LosesNone, Settles, SettlesOrWaits}
use Rattle.flight.specs.Counted.{CountsSettled}
use Rattle.std.specs.Prelude.{slice_index_or, None}
use Rattle.flight.specs.Leaving.{AllLeave, End, Leaves}
use Rattle.flight.specs.Origin.{Origin}
use Rattle.flight.specs.Told.{Keeps}
use Rattle.flight.specs.Waiting.{FlightState, IsAccounted, Stays, UnderWay, WaitsFrom, attempted, exchange_at, outstanding}
use Rattle.flight.proofs.Leaving.{none_ends, one_left}
use Rattle.flight.proofs.Flights.{as_it_was, attempts_on, on_or_begun_then, origins_on, origins_same, stays_same, stays_then, waits_as}
use Rattle.flight.proofs.Places.{joins_none_on, joins_none_same, kept_same}

-- what is seen of the questions in flight, by its parts
abbrev state_of : List (Option UnderWay) → List ℕ → ℕ → ℕ → BeginAttempt → FlightState
state_of exchanges begun latest limit tried = record { exchanges = exchanges; begun = begun; latest = latest; limit = limit; tried = tried }

same_parts : (exchanges exchanges' : List (Option UnderWay)) (begun begun' : List ℕ) (latest latest' limit limit' : ℕ) (tried tried' : BeginAttempt)
    → exchanges' ≡ exchanges → begun' ≡ begun → latest' ≡ latest → limit' ≡ limit → tried' ≡ tried → state_of exchanges' begun' latest' limit' tried' ≡ state_of exchanges begun latest limit tried
same_parts exchanges exchanges' begun begun' latest latest' limit limit' tried tried' is_exchanges is_begun is_latest is_limit is_tried = cc

-- What is seen of the questions in flight is the same where each part of it is.
pub same_state : (old new : FlightState) → new.exchanges ≡ old.exchanges → new.begun ≡ old.begun → new.latest ≡ old.latest → new.limit ≡ old.limit → new.tried ≡ old.tried → new ≡ old
same_state old new exchanges begun latest limit tried = same_parts _ _ _ _ _ _ _ _ _ _ exchanges begun latest limit tried

-- It is accounted for, as no exchange begins or ends.
pub accounted_settled : (waiting : ℕ) (old new : Counts) → CountsSettled old new → IsAccounted 1 waiting old waiting new
accounted_settled waiting old new settles =
    record {
      never_fall = record {
        settled = elim settles.settled [ inl one ↦ omega (arith, one) | inr last ↦ omega (arith, last.1) ];
        opened = omega (arith, settles.opened);
        ended = omega (arith, settles.ended);
        listened = omega (arith, settles.listened);
        expired = omega (arith, settles.expired);
      };
      add_up = elim settles.settled [
        | inl one ↦ inl (record { clients = omega (arith, one); exchanges = omega (arith, settles.opened, settles.ended) })
        | inr last ↦ inr (inl (omega (arith, last.0, last.1)))
      ];
    }

-- It does not wait where nothing in flight has changed but the latest attempt, and nothing was counted before.
pub settled_there : {W O K : Type 0} {sends : K → List ℕ → Type 0} {server_port : W → ℕ} {counts : W → Counts} {outbox : W → O} {posts : O → K → List ℕ → O → Type 0} {client : K} {reply : Option (List ℕ)}
    {of : Origin → Type 0} (now : ℕ) (flight flight' : FlightState) (old mid new : W)
    → (octets : List ℕ) → sends client octets → Keeps server_port outbox old mid → counts mid ≡ counts old → Stays now of flight flight' → Settles server_port counts outbox posts client reply mid new
    → SettlesOrWaits sends server_port counts outbox posts now client of flight old flight' new
settled_there {sends = sends} {counts = counts} {outbox = outbox} {posts = posts} {client = client} {reply = reply} now flight flight' old mid new octets own keeps counted stays settles =
    let exchanges : flight'.exchanges ≡ flight.exchanges = ap (λ (state : FlightState). state.exchanges) stays.same in
    let many : outstanding flight' ≡ outstanding flight = ap (count_by is_some) exchanges in
    let end : End sends = record { client = client; octets = octets; own = own; reply = reply } in
    record {
      port = settles.port ∙ keeps.port;
      ends = record {
        ends = end ∷ [];
        left = one_left posts end (outbox old) (outbox mid) (outbox new) keeps.silent settles.left;
        count = omega (arith, many);
      };
      own = (refl, tt);
      accounted = rw (many, ← counted) (accounted_settled (outstanding flight) (counts mid) (counts new) settles.settled);
      unheard = settles.settled.listened ∙ ap (λ (c : Counts). c.listened) counted;
      unexpired = settles.settled.expired ∙ ap (λ (c : Counts). c.expired) counted;
      waits = inl stays;
      within = λ few. omega (arith, few, many);
      places = kept_same flight flight' exchanges;
      bounded = λ few. omega (arith, few, ap kept_by exchanges);
      limit = ap (λ (state : FlightState). state.limit) stays.same;
    }

-- The same of the same client.
pub own_client : {W O K : Type 0} {sends : K → List ℕ → Type 0} {server_port : W → ℕ} {counts : W → Counts} {outbox : W → O} {posts : O → K → List ℕ → O → Type 0} {client client' : K} {now : ℕ} {of : Origin → Type 0} {flight flight' : FlightState} {old new : W}
    → client' ≡ client → SettlesOrWaits sends server_port counts outbox posts now client' of flight old flight' new → SettlesOrWaits sends server_port counts outbox posts now client of flight old flight' new
own_client {K = K} {sends = sends} {server_port = server_port} {counts = counts} {outbox = outbox} {posts = posts} {now = now} {of = of} {flight = flight} {flight' = flight'} {old = old} {new = new} same is =
    subst (λ (c : K). SettlesOrWaits sends server_port counts outbox posts now c of flight old flight' new) same is

-- The same of a question of which less is said.
pub said_less : {W O K : Type 0} {sends : K → List ℕ → Type 0} {server_port : W → ℕ} {counts : W → Counts} {outbox : W → O} {posts : O → K → List ℕ → O → Type 0} {client : K} {now : ℕ} {of of' : Origin → Type 0}
    {flight flight' : FlightState} {old new : W}
    → SettlesOrWaits sends server_port counts outbox posts now client of flight old flight' new → ((origin : Origin) → of origin → of' origin) → SettlesOrWaits sends server_port counts outbox posts now client of' flight old flight' new
said_less {now = now} {of = of} {of' = of'} {flight = flight} {flight' = flight'} is implies = record {
  port = is.port;
  ends = is.ends;
  own = is.own;
  accounted = is.accounted;
  unheard = is.unheard;
  unexpired = is.unexpired;
  waits = waits_as now of of' flight flight' is.waits implies;
  within = is.within;
  places = is.places;
  bounded = is.bounded;
  limit = is.limit;
}

-- It waits where nothing in flight had changed but the latest attempt.
waits_later : (now : ℕ) (of : Origin → Type 0) (flight before flight' : FlightState) → Stays now of flight before → WaitsFrom now of (attempted before.tried flight) flight' → WaitsFrom now of flight flight'
waits_later now of flight before flight' stayed waits = elim waits [
  | inl stays ↦
      let there : Stays now of before flight' = subst (λ (state : FlightState). Stays now of state flight') (sym stayed.same) stays in
      inl (stays_then now of flight before flight' stayed there)
  | inr begins ↦ inr (record {
    key = begins.key;
    vacant = begins.vacant;
    begins = begins.begins;
    watched = begins.watched;
    origin = begins.origin;
    others = begins.others;
    one_more = begins.one_more;
    begun = begins.begun;
    latest = begins.latest;
    limit = begins.limit;
    tried = begins.tried;
  })
]

-- The same where nothing was told or counted before, and nothing in flight has changed but the latest attempt.
pub settles_later : {W O K : Type 0} {sends : K → List ℕ → Type 0} {server_port : W → ℕ} {counts : W → Counts} {outbox : W → O} {posts : O → K → List ℕ → O → Type 0} {client : K} {now : ℕ} {of : Origin → Type 0}
    (flight before flight' : FlightState) (old mid new : W)
    → Keeps server_port outbox old mid → counts mid ≡ counts old → Stays now of flight before → SettlesOrWaits sends server_port counts outbox posts now client of before mid flight' new → SettlesOrWaits sends server_port counts outbox posts now client of flight old flight' new
settles_later {O = O} {sends = sends} {server_port = server_port} {counts = counts} {outbox = outbox} {posts = posts} {client = client} {now = now} {of = of} flight before flight' old mid new keeps counted stayed is =
    let there : SettlesOrWaits sends server_port counts outbox posts now client of (attempted before.tried flight) mid flight' new
    = subst (λ (was : FlightState). SettlesOrWaits sends server_port counts outbox posts now client of was mid flight' new) stayed.same is in
    record {
      port = there.port ∙ keeps.port;
      ends = record {
        ends = there.ends.ends;
        left = subst (λ (out : O). AllLeave posts there.ends.ends out (outbox new)) keeps.silent there.ends.left;
        count = there.ends.count;
      };
      own = there.own;
      accounted = subst (λ (was : Counts). IsAccounted 1 (outstanding flight) was (outstanding flight') (counts new)) counted there.accounted;
      unheard = there.unheard ∙ ap (λ (c : Counts). c.listened) counted;
      unexpired = there.unexpired ∙ ap (λ (c : Counts). c.expired) counted;
      waits = waits_later now of flight before flight' stayed there.waits;
      within = there.within;
      places = record { zones = there.places.zones; networks = there.places.networks };
      bounded = there.bounded;
      limit = there.limit;
    }

-- So it is where nothing happened before.
pub settled_now : {W O K : Type 0} {sends : K → List ℕ → Type 0} {server_port : W → ℕ} {counts : W → Counts} {outbox : W → O} {posts : O → K → List ℕ → O → Type 0} {client : K} {reply : Option (List ℕ)}
    {of : Origin → Type 0} (now : ℕ) (flight flight' : FlightState) (old new : W)
    → (octets : List ℕ) → sends client octets → flight' ≡ flight → Settles server_port counts outbox posts client reply old new → SettlesOrWaits sends server_port counts outbox posts now client of flight old flight' new
settled_now {of = of} now flight flight' old new octets own same settles = settled_there now flight flight' old old new octets own (record { port = refl; silent = refl }) refl (stays_same now of flight flight' same) settles

-- A client is settled, where nothing was told or counted before.
pub settles_behind : {W O K : Type 0} {server_port : W → ℕ} {counts : W → Counts} {outbox : W → O} {posts : O → K → List ℕ → O → Type 0} {client : K} {reply : Option (List ℕ)}
    {old mid new : W} (given : Option (List ℕ) → Type 0) → given reply → Keeps server_port outbox old mid → counts mid ≡ counts old → Settles server_port counts outbox posts client reply mid new
    → (reply : Option (List ℕ)) × given reply × Settles server_port counts outbox posts client reply old new
settles_behind {O = O} {counts = counts} {outbox = outbox} {posts = posts} {client = client} {reply = reply} {new = new} given is keeps counted settles = (
  reply,
  is,
  record {
    port = settles.port ∙ keeps.port;
    settled = subst (λ (was : Counts). CountsSettled was (counts new)) counted settles.settled;
    left = subst (λ (out : O). Leaves posts client reply out (outbox new)) keeps.silent settles.left;
  },
)

-- None is lost if the same exchanges are under way, however many the queue names.
pub loses_as_before : {W O K : Type 0} {sends : K → List ℕ → Type 0} {server_port : W → ℕ} {counts : W → Counts} {outbox : W → O} {posts : O → K → List ℕ → O → Type 0} (now : ℕ) (first old new : FlightState) (before between : W)
    → LosesNone sends server_port counts outbox posts now first before old between → new.exchanges ≡ old.exchanges → new.latest ≡ old.latest → new.limit ≡ old.limit → new.tried ≡ old.tried
    → LosesNone sends server_port counts outbox posts now first before new between
loses_as_before {counts = counts} now first old new before between so_far exchanges latest limit tried =
    let many : outstanding new ≡ outstanding old = ap (count_by is_some) exchanges in
    record {
      port = so_far.port;
      ends = record { ends = so_far.ends.ends; left = so_far.ends.left; count = omega (arith, many, so_far.ends.count) };
      accounted = subst (λ (waiting : ℕ). IsAccounted 0 (outstanding first) (counts before) waiting (counts between)) (sym many) so_far.accounted;
      begins = on_or_begun_then now first old new so_far.begins (as_it_was now old new (λ key. ap (λ (list : List (Option UnderWay)). slice_index_or list key None) exchanges) latest);
      no_more = omega (arith, many, so_far.no_more);
      origins = origins_on first old new so_far.origins (origins_same old new (λ key. ap (λ (list : List (Option UnderWay)). slice_index_or list key None) exchanges));
      joins_none = joins_none_on first old new so_far.joins_none (joins_none_same old new exchanges);
      attempts = attempts_on now first old new so_far.origins so_far.attempts (inl tried);
      bounded = λ few. omega (arith, so_far.bounded few, ap kept_by exchanges);
      limit = limit ∙ so_far.limit;
    }

-- None is lost where nothing happens.
pub none_lost : {W O K : Type 0} {sends : K → List ℕ → Type 0} {server_port : W → ℕ} {counts : W → Counts} {outbox : W → O} {posts : O → K → List ℕ → O → Type 0} (now : ℕ) (flight flight' : FlightState) (sockets : W)
    → flight' ≡ flight → LosesNone sends server_port counts outbox posts now flight sockets flight' sockets
none_lost now flight flight' sockets same =
    let many : outstanding flight' ≡ outstanding flight = ap outstanding same in
    record {
      port = refl;
      ends = none_ends 0 _ _ refl (omega (arith, many));
      accounted = record {
        never_fall = record { settled = omega arith; opened = omega arith; ended = omega arith; listened = omega arith; expired = omega arith };
        add_up = inl (record { clients = omega (arith, many); exchanges = omega (arith, many) });
      };
      begins = as_it_was now flight flight' (λ key. ap (λ (state : FlightState). exchange_at state key) same) (ap (λ (state : FlightState). state.latest) same);
      no_more = omega (arith, many);
      origins = origins_same flight flight' (λ key. ap (λ (state : FlightState). exchange_at state key) same);
      joins_none = joins_none_same flight flight' (ap (λ (state : FlightState). state.exchanges) same);
      attempts = inl (ap (λ (state : FlightState). state.tried) same);
      bounded = λ few. omega (arith, few, ap kept_all same);
      limit = ap (λ (state : FlightState). state.limit) same;
    }
