-- Whether a question may begin an exchange, for contracts inside the crate.
use Rattle.std.specs.Prelude.{◌≡◌, ◌<◌, ◌+◌, ℕ, max, Option, List, Result, IfErr, OnOk}
use Rattle.flight.specs.declared.asking.Asking.{Asking}
use Rattle.flight.specs.declared.table.cause.Cause.{Cause}
use Rattle.flight.specs.declared.table.cause.Unserved.{Unserved}
use Rattle.flight.specs.declared.table.cause.Unserved.TheVariants as told
use Rattle.flight.specs.declared.table.Asker.{Asker}
use Rattle.flight.specs.declared.table.Denied.{Denied}
use Rattle.flight.specs.declared.table.Denied.TheVariants.{NoMemory, TooLarge, TooLong, TooMany}
use Rattle.flight.specs.declared.table.MadeRoom.{MadeRoom}
use Rattle.flight.specs.declared.table.TheConstants.{LAST_BEGINNING}
use Rattle.flight.specs.Asking.{origin_in}
use Rattle.flight.specs.Bounds.{KeepsTooMuch}
use Rattle.flight.specs.Kept.{kept_in}
use Rattle.flight.specs.Places.{HasPlace, MayBegin}
use Rattle.flight.specs.Waiting.{UnderWay}

-- There is a place for a question at this moment, which is no earlier than the latest at which an exchange began.
abbrev pub HasPlaceNow : {G K : Type 0} → (K → ℕ) → ℕ → Asking G K → ℕ → Asker → List (Option UnderWay) → ℕ → Type 0
HasPlaceNow network now asking latest asker exchanges limit = HasPlace (max now latest) (origin_in network asking) asker exchanges limit

-- A question may begin an exchange at such a moment.
abbrev pub MayBeginNow : {G K : Type 0} → (K → ℕ) → ℕ → Asking G K → ℕ → Asker → List (Option UnderWay) → ℕ → Type 0
MayBeginNow network now asking latest asker exchanges limit = MayBegin (max now latest) (origin_in network asking) asker (kept_in asking.task.steps.items) exchanges limit

-- The reason for which it may not was shown to be so: its time is up, there is no place, or it keeps too much. A call alone can say that there is no memory.
abbrev pub IsShown : {G K : Type 0} → (K → ℕ) → ℕ → Asking G K → ℕ → Asker → List (Option UnderWay) → ℕ → Denied → Type 0
IsShown network now asking latest asker exchanges limit TooLong = asking.began + LAST_BEGINNING < max now latest
IsShown network now asking latest asker exchanges limit TooMany = ¬ (HasPlaceNow network now asking latest asker exchanges limit)
IsShown network now asking latest asker exchanges limit TooLarge = KeepsTooMuch (kept_in asking.task.steps.items) exchanges
IsShown network now asking latest asker exchanges limit (NoMemory refused) = Unit {0}

-- the reason that its client is told
abbrev pub why_of : Denied → Unserved
why_of TooLong = told.TooLong
why_of TooMany = told.TooMany
why_of TooLarge = told.TooLarge
why_of (NoMemory refused) = told.NoMemory

-- If room was made for a question, it may begin an exchange at such a moment.
abbrev pub BeginsIfMay : {A E G K : Type 0} → Result A E → (K → ℕ) → ℕ → Asking G K → ℕ → Asker → List (Option UnderWay) → ℕ → Type 0
BeginsIfMay result network now asking latest asker exchanges limit = OnOk result (MayBeginNow network now asking latest asker exchanges limit)

-- If a question may not wait, the reason was shown to be so.
abbrev pub DeniesForReason : {A G K : Type 0} → Result A Denied → (K → ℕ) → ℕ → Asking G K → ℕ → Asker → List (Option UnderWay) → ℕ → Type 0
DeniesForReason result network now asking latest asker exchanges limit = IfErr result (IsShown network now asking latest asker exchanges limit)

-- A cause has the client of a question that may not wait now, and its reason was shown to be so.
pub record IsCauseOf {G K : Type 0} (network : K → ℕ) (now : ℕ) (asking : Asking G K) (latest : ℕ) (asker : Asker) (exchanges : List (Option UnderWay)) (limit : ℕ) (cause : Cause K) : Type 0 where
  pub client : cause.client ≡ asking.client
  pub reason : Denied
  pub why : cause.why ≡ why_of reason
  pub shown : IsShown network now asking latest asker exchanges limit reason

-- Room was made for a question with the octets of its client, and the question is as it was.
pub record IsRoomFor {G K : Type 0} (octets : List ℕ) (asking : Asking G K) (room : MadeRoom) (asking' : Asking G K) : Type 0 where
  pub octets_are : room.octets ≡ octets
  pub kept : room.kept ≡ kept_in asking.task.steps.items
  pub same : asking' ≡ asking
