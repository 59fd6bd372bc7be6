-- A question that ends because it keeps too much.
use Rattle.std.proofs.Common.{◌≡◌, ◌∙◌, ◌+◌, ℕ, List, [], ◌∷◌, Option, refl, arith, inl, inr}
use Rattle.flight.specs.declared.counts.Counts.{Counts}
use Rattle.flight.specs.Clients.{LosesNone, Settles}
use Rattle.flight.specs.Leaving.{End, Ends}
use Rattle.flight.specs.Told.{Keeps}
use Rattle.flight.specs.Waiting.{FlightState, IsAccounted}
use Rattle.flight.proofs.Accounting.{accounted_then}
use Rattle.flight.proofs.Flights.{attempts_on, on_or_begun_then, origins_on}
use Rattle.flight.proofs.Leaving.{ends_then, one_left}
use Rattle.flight.proofs.Places.{joins_none_on}

-- Its client is settled, and nothing left before.
pub ends_one : {W O K : Type 0} {sends : K → List ℕ → Type 0} {server_port : W → ℕ} {counts : W → Counts} {outbox : W → O} {posts : O → K → List ℕ → O → Type 0} {client : K} {reply : Option (List ℕ)} {old mid new : W}
    → (octets : List ℕ) → sends client octets → Keeps server_port outbox old mid → Settles server_port counts outbox posts client reply mid new → Ends sends posts 0 1 (outbox old) 0 (outbox new)
ends_one {sends = sends} {outbox = outbox} {posts = posts} {client = client} {reply = reply} {old = old} {mid = mid} {new = new} octets own keeps settles =
    let end : End sends = record { client = client; octets = octets; own = own; reply = reply } in
    record { ends = end ∷ []; left = one_left posts end (outbox old) (outbox mid) (outbox new) keeps.silent settles.left; count = refl }

-- The same if others wait beside it.
pub ends_by : {O K : Type 0} {sends : K → List ℕ → Type 0} {posts : O → K → List ℕ → O → Type 0} {old new : O} {waiting : ℕ} (others : ℕ) → others + 1 ≡ waiting → Ends sends posts 0 1 old 0 new → Ends sends posts 0 waiting old others new
ends_by others more ends = record { ends = ends.ends; left = ends.left; count = omega (arith, ends.count, more) }

pub accounted_by : {waiting : ℕ} {old new : Counts} (others : ℕ) → others + 1 ≡ waiting → IsAccounted 0 1 old 0 new → IsAccounted 0 waiting old others new
accounted_by others more accounted = record {
  never_fall = accounted.never_fall;
  add_up = elim accounted.add_up [
    | inl adds ↦ inl (record { clients = omega (arith, adds.clients, more); exchanges = omega (arith, adds.exchanges, more) })
    | inr full ↦ inr full
  ];
}

-- None is lost where one thing happens after another.
pub loses_none_then : {W O K : Type 0} {sends : K → List ℕ → Type 0} {server_port : W → ℕ} {counts : W → Counts} {outbox : W → O} {posts : O → K → List ℕ → O → Type 0} (now : ℕ) (old between new : FlightState) (first mid last : W)
    → LosesNone sends server_port counts outbox posts now old first between mid → LosesNone sends server_port counts outbox posts now between mid new last → LosesNone sends server_port counts outbox posts now old first new last
loses_none_then now old between new first mid last before after = record {
  port = after.port ∙ before.port;
  ends = ends_then before.ends after.ends;
  accounted = accounted_then 0 0 _ _ _ _ _ _ before.accounted after.accounted;
  begins = on_or_begun_then now old between new before.begins after.begins;
  no_more = omega (arith, before.no_more, after.no_more);
  origins = origins_on old between new before.origins after.origins;
  joins_none = joins_none_on old between new before.joins_none after.joins_none;
  attempts = attempts_on now old between new before.origins before.attempts after.attempts;
  bounded = λ few. after.bounded (before.bounded few);
  limit = after.limit ∙ before.limit;
}
