-- The bounds of what the questions that wait keep.
use Rattle.std.specs.Prelude.{◌≡◌, ◌≢◌, ◌⊎◌, ◌<◌, ◌≤◌, ℕ, ◌+◌, Option, Some, None, List, slice_index_or}
use Rattle.std.specs.List.{sum_by}
use Rattle.flight.specs.declared.kept.TheConstants.{MOST_ALL_KEPT, MOST_KEPT}
use Rattle.flight.specs.Waiting.{FlightState, UnderWay, exchange_at}

-- what the question of an exchange keeps
abbrev pub kept_of : Option UnderWay → ℕ
kept_of None = 0
kept_of (Some exchange) = exchange.kept

-- what the questions of a list of exchanges keep, together
abbrev pub kept_by : List (Option UnderWay) → ℕ
kept_by exchanges = sum_by kept_of exchanges

-- what all questions that wait keep, together
abbrev pub kept_all : FlightState → ℕ
kept_all state = kept_by state.exchanges

-- All questions that wait keep no more than all may, together.
abbrev pub IsBounded : FlightState → Type 0
IsBounded state = kept_all state ≤ MOST_ALL_KEPT

-- A question that keeps so much may wait beside these: it keeps no more than one may, and all together keep no more than all may.
pub record MayKeep (kept : ℕ) (exchanges : List (Option UnderWay)) : Type 0 where
  pub one : kept ≤ MOST_KEPT
  pub all : kept_by exchanges + kept ≤ MOST_ALL_KEPT

-- A question keeps too much to wait beside these.
abbrev pub KeepsTooMuch : ℕ → List (Option UnderWay) → Type 0
KeepsTooMuch kept exchanges = (MOST_KEPT < kept) ⊎ (MOST_ALL_KEPT < kept_by exchanges + kept)

-- Each question keeps no more than one may.
abbrev pub EachIsSmall : List (Option UnderWay) → Type 0
EachIsSmall exchanges = (key : ℕ) → kept_of (slice_index_or exchanges key None) ≤ MOST_KEPT

-- No question keeps more than so much.
abbrev pub EachKeepsAtMost : ℕ → List (Option UnderWay) → Type 0
EachKeepsAtMost most exchanges = (key : ℕ) → kept_of (slice_index_or exchanges key None) ≤ most

-- Together they keep just so much, which is no more than all may. Each keeps no more than one may.
pub record IsWithin (exchanges : List (Option UnderWay)) (kept : ℕ) : Type 0 where
  pub sum : kept ≡ kept_by exchanges
  pub all : kept ≤ MOST_ALL_KEPT
  pub each : EachIsSmall exchanges

-- No question of these exchanges keeps more than that under this key.
abbrev pub KeepsMost : List (Option UnderWay) → ℕ → Type 0
KeepsMost exchanges key = (other : ℕ) → kept_of (slice_index_or exchanges other None) ≤ kept_of (slice_index_or exchanges key None)

-- A question that waits ends, and none that waits keeps more. The exchanges of all others go on as they are.
pub record EndsLargest (old new : FlightState) : Type 0 where
  pub key : ℕ
  pub waits : exchange_at old key ≢ None
  pub largest : KeepsMost old.exchanges key
  pub ended : exchange_at new key ≡ None
  pub others : (other : ℕ) → other ≢ key → exchange_at new other ≡ exchange_at old other
  pub begun : new.begun ≡ old.begun
  pub latest : new.latest ≡ old.latest
  pub limit : new.limit ≡ old.limit
  pub tried : new.tried ≡ old.tried

-- As long as those that wait keep more than so much, the one that keeps most ends. Nothing else happens.
pub data Relieves (most : ℕ) (old : FlightState) : FlightState → Type 0 where
  stays : Relieves most old old
  ends : {between new : FlightState} → Relieves most old between → most < kept_all between → EndsLargest between new → Relieves most old new

-- Each exchange under way was under way before, as it is.
abbrev pub AllGoOn : FlightState → FlightState → Type 0
AllGoOn old new = (key : ℕ) (exchange : UnderWay) → exchange_at new key ≡ Some exchange → exchange_at old key ≡ Some exchange
