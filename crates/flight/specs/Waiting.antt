-- The clients that wait, each for one exchange.
use Rattle.std.specs.Prelude.{◌≡◌, ◌≢◌, ◌⊎◌, ◌<◌, ◌≤◌, ℕ, ◌+◌, ◌-◌, min, max, Bool, false, Option, Some, None, is_some, count_by, slice_index_or, List, [], ◌∷◌, ◌++◌}
use Rattle.flight.specs.declared.counts.Counts.{Counts}
use Rattle.flight.specs.declared.table.BeginAttempt.{BeginAttempt}
use Rattle.flight.specs.Counted.{NeverFall, IsFull}
use Rattle.flight.specs.Flight.{Sent}
use Rattle.flight.specs.Origin.{Origin}

-- an exchange under way
pub record UnderWay : Type 0 where
  pub since : ℕ  -- the moment, in milliseconds, at which it began
  pub asked : Sent  -- the query that went out
  pub key : ℕ  -- the key under which it is watched
  pub origin : Origin  -- the question that waits for it
  pub kept : ℕ  -- how many octets the steps of that question keep

-- the visible state of the questions in flight
pub record FlightState : Type 0 where
  pub exchanges : List (Option UnderWay)  -- under each key the exchange under way
  pub begun : List ℕ  -- the moments at which exchanges began, in order: those under way, and some that have ended since
  pub latest : ℕ  -- the latest moment at which one began
  pub limit : ℕ  -- how many exchanges may be under way
  pub tried : BeginAttempt  -- the latest attempt to begin one

-- the same state after this attempt
abbrev pub attempted : BeginAttempt → FlightState → FlightState
attempted attempt state = record state { tried = attempt }

-- how many exchanges are under way; one client waits for each
abbrev pub outstanding : FlightState → ℕ
outstanding state = count_by is_some state.exchanges

-- the moment at which an exchange began
abbrev pub since_of : Option UnderWay → Option ℕ
since_of None = None
since_of (Some exchange) = Some exchange.since

-- of a list of exchanges, the moment at which the one under a key began
abbrev pub since_in : List (Option UnderWay) → ℕ → Option ℕ
since_in exchanges key = since_of (slice_index_or exchanges key None)

-- the exchange under a key
abbrev pub exchange_at : FlightState → ℕ → Option UnderWay
exchange_at state key = slice_index_or state.exchanges key None

-- Each exchange is watched under its own key, that of the question which waits for it.
abbrev pub IsWatched : FlightState → Type 0
IsWatched state = (key : ℕ) (exchange : UnderWay) → exchange_at state key ≡ Some exchange → exchange.key ≡ key

-- the moment at which the exchange under a key began
abbrev pub since_at : FlightState → ℕ → Option ℕ
since_at state key = since_in state.exchanges key

-- whether the question of an exchange passes a test
abbrev pub is_for : (Origin → Bool) → Option UnderWay → Bool
is_for test None = false
is_for test (Some exchange) = test exchange.origin

-- of how many exchanges of a list the question passes a test
abbrev pub count_for : (Origin → Bool) → List (Option UnderWay) → ℕ
count_for test exchanges = count_by (is_for test) exchanges

-- how many questions that pass a test wait
abbrev pub waiting_for : (Origin → Bool) → FlightState → ℕ
waiting_for test state = count_for test state.exchanges

-- This question waits.
abbrev pub HasQuestion : FlightState → Origin → Type 0
HasQuestion state origin = (key : ℕ) × (exchange : UnderWay) × (exchange_at state key ≡ Some exchange) × (exchange.origin ≡ origin)

-- Each client waits or was settled once: those that waited before, and so many more. Each exchange that began is under way for one of them, or ended once.
pub record AddUp (more waiting : ℕ) (old : Counts) (waiting' : ℕ) (new : Counts) : Type 0 where
  pub clients : waiting' + new.settled ≡ waiting + old.settled + more
  pub exchanges : waiting' + new.ended + old.opened ≡ waiting + old.ended + new.opened

-- The counts add up, unless a counter reached its last value.
pub record IsAccounted (more waiting : ℕ) (old : Counts) (waiting' : ℕ) (new : Counts) : Type 0 where
  pub never_fall : NeverFall old new
  pub add_up : AddUp more waiting old waiting' new ⊎ IsFull new

-- Such a question wanted to begin an exchange at this moment.
pub record IsAttempt (now : ℕ) (of : Origin → Type 0) (attempt : BeginAttempt) : Type 0 where
  pub at : attempt.at ≡ now
  pub origin : Origin
  pub is : of origin
  pub began : attempt.began ≡ origin.began

-- The latest attempt to begin an exchange is that before, or such a question makes it now.
abbrev pub Attempts : ℕ → (Origin → Type 0) → FlightState → FlightState → Type 0
Attempts now of old new = (new.tried ≡ old.tried) ⊎ IsAttempt now of new.tried

-- Nothing changes, except that such a question may now want to begin an exchange.
pub record Stays (now : ℕ) (of : Origin → Type 0) (old new : FlightState) : Type 0 where
  pub same : new ≡ attempted new.tried old
  pub attempts : Attempts now of old new

-- An exchange of such a question begins under a vacant key, no earlier than those before, and is watched under it. Each other goes on.
pub record Begins (now : ℕ) (of : Origin → Type 0) (old new : FlightState) : Type 0 where
  pub key : ℕ
  pub vacant : since_at old key ≡ None
  pub begins : since_at new key ≡ Some (max now old.latest)
  pub watched : (exchange : UnderWay) → exchange_at new key ≡ Some exchange → exchange.key ≡ key
  pub origin : (exchange : UnderWay) → exchange_at new key ≡ Some exchange → of exchange.origin
  pub others : (other : ℕ) → other ≢ key → exchange_at new other ≡ exchange_at old other
  pub one_more : outstanding new ≡ outstanding old + 1
  pub begun : new.begun ≡ old.begun ++ max now old.latest ∷ []
  pub latest : new.latest ≡ max now old.latest
  pub limit : new.limit ≡ old.limit
  pub tried : IsAttempt now of new.tried

-- One such question more waits for an exchange that begins now, or nothing changes but the latest attempt.
abbrev pub WaitsFrom : ℕ → (Origin → Type 0) → FlightState → FlightState → Type 0
WaitsFrom now of old new = Stays now of old new ⊎ Begins now of old new

-- Each exchange under way was under way before, or begins now, no earlier than those before. Each is watched under its own key.
pub record GoesOnOrBegins (now : ℕ) (old new : FlightState) : Type 0 where
  pub under_way : (key since : ℕ) → since_at new key ≡ Some since → (since_at old key ≡ Some since) ⊎ (since ≡ max now old.latest)
  pub watched : IsWatched old → IsWatched new
  pub latest : (new.latest ≡ old.latest) ⊎ (new.latest ≡ max now old.latest)

-- Each question that waits did so before: none grows younger, or changes its zone or its client.
abbrev pub KeepsOrigins : FlightState → FlightState → Type 0
KeepsOrigins old new = (key : ℕ) (exchange : UnderWay) → exchange_at new key ≡ Some exchange → HasQuestion old exchange.origin

-- No question joins those that wait: of no kind are there more.
abbrev pub JoinsNone : FlightState → FlightState → Type 0
JoinsNone old new = (test : Origin → Bool) → waiting_for test new ≤ waiting_for test old

-- Each exchange under another key goes on.
abbrev pub OthersGoOn : ℕ → FlightState → FlightState → Type 0
OthersGoOn key old new = (other since : ℕ) → other ≢ key → since_at old other ≡ Some since → since_at new other ≡ Some since

-- Each exchange that began less than so many milliseconds ago goes on.
abbrev pub EarlyGoOn : ℕ → ℕ → FlightState → FlightState → Type 0
EarlyGoOn patience now old new = (key since : ℕ) → since_at old key ≡ Some since → now < since + patience → since_at new key ≡ Some since

-- Each exchange under way began less than so many milliseconds ago.
abbrev pub IsPatient : ℕ → ℕ → FlightState → Type 0
IsPatient patience now state = (key since : ℕ) → since_at state key ≡ Some since → now < since + patience

-- Each exchange under way is of a question that began less than so many milliseconds ago.
abbrev pub IsTimely : ℕ → ℕ → FlightState → Type 0
IsTimely most now state = (key : ℕ) (exchange : UnderWay) → exchange_at state key ≡ Some exchange → now < exchange.origin.began + most

-- Until this moment no exchange is under way for more than so many milliseconds.
abbrev pub IsPatientUntil : ℕ → ℕ → FlightState → Type 0
IsPatientUntil patience moment state = (key since : ℕ) → since_at state key ≡ Some since → moment ≤ since + patience

-- the milliseconds, of so many, that the exchange that began first has left
abbrev pub time_left : ℕ → ℕ → List ℕ → Option ℕ
time_left patience now [] = None
time_left patience now (since ∷ begun) = Some (min patience (since + patience - now))
