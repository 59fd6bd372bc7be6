-- What a call gives back.
use Rattle.std.specs.Prelude.{◌≡◌, ◌⊎◌, ℕ, Bool, ◌+◌, ◌<◌, ◌≤◌, ◌^◌, true, false, IsTrue, List, length, Option, IfSome, Result, Ok, Err, IsErrOf}
use Rattle.history.specs.declared.event.Ask.{Ask}
use Rattle.history.specs.declared.event.Ask.TheVariants.{Oldest}
use Rattle.history.specs.declared.event.Event.{Event}
use Rattle.history.specs.declared.event.Event.TheVariants.{Look}
use Rattle.history.specs.declared.event.Reply.{Reply}
use Rattle.history.specs.declared.event.Reply.TheVariants.{Swept}
use Rattle.history.specs.declared.event.Settings.{Settings}
use Rattle.history.specs.declared.book.StepFault.{StepFault}
use Rattle.history.specs.declared.book.StepFault.TheVariants.{BadMoment, CountEnded, Full, NoMemory}
use Rattle.history.specs.declared.desk.DeskFault.{DeskFault}
use Rattle.history.specs.declared.desk.DeskFault.TheVariants.{Step, Behind}
use Rattle.history.specs.declared.limits.TheConstants.{MOMENT_END, MOST_EVENTS}
use Rattle.history.specs.Event.{moment_of, is_admission, is_plain}
use Rattle.history.specs.Answers.{IsTimely}
use Rattle.history.specs.History.{past_of}
use Rattle.history.specs.Reply.{reply_of}
use Rattle.shared_book.specs.declared.fault.CallFault.{CallFault}
use Rattle.shared_book.specs.declared.fault.CallFault.TheVariants.{Behind as CallBehind, Step as CallStep}
use Rattle.shared_book.specs.declared.fault.SplitFault.{SplitFault}
use Rattle.shared_book.specs.declared.fault.SplitFault.TheVariants.{CountEnded as SplitEnded}
use Rattle.shared_book.specs.declared.receipt.Receipt.{Receipt}
use Rattle.shared_book.specs.declared.shared.TheConstants.{MOST_TURNS}
use Rattle.shared_book.specs.Pass.{PassState, after_call}
use Rattle.shared_book.specs.Kept.{KeptState, IsKeptAs, IsStep, IsFreeCall, LacksByBook, IsTurnForThere, IsSweepThere}

-- The receipt of a call with this pass, which then has seen it.
pub record IsReceiptOf (pass : PassState) (event : Event) (receipt : Receipt) (pass' : PassState) : Type 0 where
  pub caller : receipt.caller ≡ pass.caller
  pub event_is : receipt.event ≡ event
  pub later : pass.seen < receipt.number
  pub counted : pass' ≡ after_call pass receipt.number

-- By these settings a reply is that of the replay of some history of as many events as there were calls before it, after which the event is timely.
pub record IsJustified (settings : Settings) (number : ℕ) (event : Event) (reply : Reply) : Type 0 where
  pub history : List Event
  pub place : number ≡ length history + 1
  pub timely : IsTimely (length history) event
  pub reply_is : reply ≡ reply_of settings (past_of settings.journal history) event

-- Why a book that was made with these settings does not take an event. That the count has ended depends on what lies under the lock (`IsCall`).
abbrev pub IsReason : Settings → Event → StepFault → Type 0
IsReason settings event BadMoment = MOMENT_END ≤ moment_of event
IsReason settings event CountEnded = moment_of event < MOMENT_END
IsReason settings event (Full stored) = IsTrue (is_admission event) × (stored ≡ settings.cells)
IsReason settings event NoMemory = Unit {0}

-- why a call with this pass gets no reply
abbrev pub IsReasonOf : Settings → PassState → Event → CallFault → Type 0
IsReasonOf settings pass event (CallStep fault) = IsReason settings event fault
IsReasonOf settings pass event (CallBehind at) = at < pass.seen

-- The reply to a call with this pass, which then has seen the call.
pub record IsCallReply (settings : Settings) (pass : PassState) (event : Event) (reply : Reply) (pass' : PassState) : Type 0 where
  pub counted : pass' ≡ after_call pass pass'.seen
  pub later : pass.seen < pass'.seen
  pub justified : IsJustified settings pass'.seen event reply

-- The fault of a call with this pass, which stays as it was.
pub record IsFaultOf (settings : Settings) (pass : PassState) (event : Event) (fault : CallFault) (pass' : PassState) : Type 0 where
  pub reason : IsReasonOf settings pass event fault
  pub same : pass' ≡ pass

-- One call under the lock: what lay there and the pass, the event, the answer, and both afterwards. It is one step. But a pass that has seen more calls than were made is told how many were made, and nothing changes.
abbrev pub IsCall : {B : Type 0} → (B → List Event → Type 0) → (B → Settings) → (B → ℕ) → KeptState B → PassState → Event → Result Reply CallFault → KeptState B → PassState → Type 0
IsCall stands_for made_with stored before pass event (Ok reply) after pass' =
    (pass.seen ≤ before.total) × IsStep stands_for made_with stored before pass event (Ok reply) after pass'
IsCall stands_for made_with stored before pass event (Err (CallStep fault)) after pass' =
    (pass.seen ≤ before.total) × IsStep stands_for made_with stored before pass event (Err fault) after pass'
IsCall stands_for made_with stored before pass event (Err (CallBehind at)) after pass' =
    (before.total < pass.seen) × (at ≡ before.total) × (after ≡ before) × (pass' ≡ pass)

-- A call at a shared book that was made with these settings: it is a call of what lay under the lock. So the count had ended, or as many cells were stored, or so many calls were made there, where the answer says so. And a call that takes no memory there is not told that there is none. If room for the call takes none, want of memory is the book's own.
pub record IsLocked {B : Type 0} (stands_for : B → List Event → Type 0) (made_with : B → Settings) (stored : B → ℕ) (is_free : B → Event → Type 0) (settings : Settings) (pass : PassState) (event : Event) (answer : Result Reply CallFault) (pass' : PassState) : Type 0 where
  pub before : KeptState B
  pub after : KeptState B
  pub there : IsKeptAs stands_for made_with settings before
  pub call : IsCall stands_for made_with stored before pass event answer after pass'
  pub ended : IsErrOf answer (CallStep CountEnded) → MOST_EVENTS ≤ before.total
  pub free : IsFreeCall is_free before event → ¬ (IsErrOf answer (CallStep NoMemory))
  pub own : LacksByBook stands_for made_with stored is_free before event (IsErrOf answer (CallStep NoMemory)) after

-- If room for a call takes no memory, and its answer is that there is none, the book's own step met that.
abbrev pub LacksMemoryByBook : {B : Type 0} → (B → List Event → Type 0) → (B → Settings) → (B → ℕ) → (B → Event → Type 0) → KeptState B → Event → Result Reply CallFault → KeptState B → Type 0
LacksMemoryByBook stands_for made_with stored is_free before event answer after =
    LacksByBook stands_for made_with stored is_free before event (IsErrOf answer (CallStep NoMemory)) after

-- If there is an answer, it is that of a call at a shared book that was made with these settings.
abbrev pub IsLockedIfSome : {B : Type 0} → (B → List Event → Type 0) → (B → Settings) → (B → ℕ) → (B → Event → Type 0) → Settings → PassState → Event → Option (Result Reply CallFault) → PassState → Type 0
IsLockedIfSome stands_for made_with stored is_free settings pass event told pass' =
    IfSome told (λ answer. IsLocked stands_for made_with stored is_free settings pass event answer pass')

-- A call whose event is first shared and copied, which may find no memory if the event is more than a moment and a ticket.
abbrev pub IsShared : {B : Type 0} → (B → List Event → Type 0) → (B → Settings) → (B → ℕ) → (B → Event → Type 0) → Settings → PassState → Event → Result Reply CallFault → PassState → Type 0
IsShared stands_for made_with stored is_free settings pass event answer pass' =
    (¬ (is_plain event ≡ true) × (answer ≡ Err (CallStep NoMemory))) ⊎ IsLocked stands_for made_with stored is_free settings pass event answer pass'

-- the answer that a receipt has
abbrev pub answer_of : Result Receipt CallFault → Result Reply CallFault
answer_of (Ok receipt) = Ok receipt.reply
answer_of (Err fault) = Err fault

-- what a seat tells of a call's fault
abbrev pub fault_at_desk : CallFault → DeskFault
fault_at_desk (CallStep fault) = Step fault
fault_at_desk (CallBehind at) = Behind at

-- what a seat tells of a call's answer
abbrev pub answer_at_desk : Result Reply CallFault → Result Reply DeskFault
answer_at_desk (Ok reply) = Ok reply
answer_at_desk (Err fault) = Err (fault_at_desk fault)

-- One call at a seat of a shared book that was made with these settings: the pass before, the event, the answer, the pass after.
abbrev pub SeatCall : {B : Type 0} → (B → List Event → Type 0) → (B → Settings) → (B → ℕ) → (B → Event → Type 0) → Settings → PassState → Event → Result Reply DeskFault → PassState → Type 0
SeatCall stands_for made_with stored is_free settings pass event (Ok reply) pass' =
    (receipt : Receipt) × (receipt.reply ≡ reply) × IsReceiptOf pass event receipt pass' × IsJustified settings receipt.number event reply
    × IsShared stands_for made_with stored is_free settings pass event (Ok reply) pass'
SeatCall stands_for made_with stored is_free settings pass event (Err (Step fault)) pass' =
    (pass' ≡ pass) × IsReason settings event fault × IsShared stands_for made_with stored is_free settings pass event (Err (CallStep fault)) pass'
SeatCall stands_for made_with stored is_free settings pass event (Err (Behind at)) pass' =
    (pass' ≡ pass) × (at < pass.seen) × IsShared stands_for made_with stored is_free settings pass event (Err (CallBehind at)) pass'

-- whether it is asked for the name to forget first
abbrev pub is_oldest : Ask → Bool
is_oldest Oldest = true
is_oldest ask = false

-- whether an event asks for the name to forget first
abbrev pub asks_oldest : Event → Bool
asks_oldest (Look moment ask) = is_oldest ask
asks_oldest event = false

-- A seat did not look for the name to forget first: a turn of a sweep was taken, after which another one was wanted.
abbrev pub IsPutOff : {B : Type 0} → (B → List Event → Type 0) → (B → Settings) → (B → ℕ) → (B → ℕ) → Settings → Event → Type 0
IsPutOff stands_for made_with stored unswept settings event = IsTrue (asks_oldest event) × IsTurnForThere stands_for made_with stored unswept settings false true

-- The answer of a call at a seat, with the pass before and after it.
abbrev pub AnswersAt : {B : Type 0} → (B → List Event → Type 0) → (B → Settings) → (B → ℕ) → (B → Event → Type 0) → Settings → PassState → Event → PassState → Result Reply DeskFault → Type 0
AnswersAt stands_for made_with stored is_free settings pass event pass' answer = SeatCall stands_for made_with stored is_free settings pass event answer pass'

-- how many turns a seat takes at most after the reply to a sweep: until the whole is swept, or until there is room
abbrev pub turns_for : Bool → ℕ
turns_for true = MOST_TURNS
turns_for false = 1

-- If this is the reply to a sweep, turns are taken until the sweep has done enough: of the whole, or for room.
abbrev pub SweepsAfter : {B : Type 0} → (B → List Event → Type 0) → (B → Settings) → (B → ℕ) → (B → ℕ) → Settings → Bool → Reply → Type 0
SweepsAfter stands_for made_with stored unswept settings whole reply = reply ≡ Swept → IsSweepThere stands_for made_with stored unswept settings whole (turns_for whole)

-- After the reply to a sweep, turns were taken until the sweep had done enough: of the whole, or for room.
abbrev pub SweepsOn : {B : Type 0} → (B → List Event → Type 0) → (B → Settings) → (B → ℕ) → (B → ℕ) → Settings → Bool → Result Reply DeskFault → Type 0
SweepsOn stands_for made_with stored unswept settings whole (Ok Swept) = IsSweepThere stands_for made_with stored unswept settings whole (turns_for whole)
SweepsOn stands_for made_with stored unswept settings whole answer = Unit {0}

-- A pass was not split because it has one part, or because as many callers were numbered under the lock as there may be. The fault has the parts of this pass.
abbrev pub IsUnsplit : PassState → SplitFault → Type 0
IsUnsplit pass (SplitEnded ended) = (ended.parts ≡ pass.parts) × ((ended.parts ≡ 1) ⊎ (2 ^ 62 ≤ ended.callers))
