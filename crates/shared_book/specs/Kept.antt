-- What lies under the lock.
use Rattle.std.specs.Prelude.{◌≡◌, ◌⊎◌, ℕ, Bool, true, false, ◌+◌, ◌-◌, ◌<◌, ◌≤◌, ◌^◌, min, List, [], ◌∷◌, ◌++◌, length, refl, Result, Err, IfOk, OnOk, OnErr}
use Rattle.std.specs.Coded.{Coded, code_by, coded×, coded_ℕ, coded_list}
use Rattle.std.specs.List.{AllByRecursion}
use Rattle.history.specs.declared.event.Event.{Event}
use Rattle.history.specs.declared.event.Reply.{Reply}
use Rattle.history.specs.declared.event.Settings.{Settings}
use Rattle.history.specs.declared.book.StepFault.{StepFault}
use Rattle.history.specs.declared.book.StepFault.TheVariants.{NoMemory}
use Rattle.history.specs.declared.limits.TheConstants.{MOMENT_END}
use Rattle.history.specs.Answers.{IsTimely}
use Rattle.history.specs.Desk.{IsStep as IsBookStep}
use Rattle.history.specs.Event.{moment_of, is_plain, lagging_of}
use Rattle.shared_book.specs.declared.receipt.Receipt.{Receipt}
use Rattle.shared_book.specs.Pass.{PassState, after_call}
use Rattle.shared_book.specs.Record.{receipt_for, events_of, IsLegalAfter}

-- the book, the opening book, the window of the last calls, the total of all calls, and how many callers were numbered
pub record KeptState (B : Type 0) : Type 0 where
  pub book : B
  pub opening : B  -- the book as it was before the calls of the window
  pub first : ℕ  -- the number of the window's first call
  pub window : List Receipt
  pub limit : ℕ  -- how many calls the window can have
  pub total : ℕ
  pub callers : ℕ

-- two books that have taken no event, and a window for so many calls
abbrev pub first_kept : {B : Type 0} → B → B → ℕ → KeptState B
first_kept book opening limit = record { book = book; opening = opening; first = 1; window = []; limit = limit; total = 0; callers = 1 }

-- the moments of these calls are not too late
abbrev pub AreTimely : List Receipt → Type 0
AreTimely entries = AllByRecursion (λ entry. moment_of entry.event < MOMENT_END) entries

-- There is a history that the opening book stands for. The window is legal after it, and the book stands for it followed by the window's events. Together they are all calls. The window has at most its limit of them, and either all or at most one less than its limit.
pub record IsKept {B : Type 0} (stands_for : B → List Event → Type 0) (settings : B → Settings) (kept : KeptState B) : Type 0 where
  pub before : List Event
  pub opened : stands_for kept.opening before
  pub legal : IsLegalAfter (settings kept.book) before kept.window
  pub stands : stands_for kept.book (before ++ events_of kept.window)
  pub numbered : kept.first ≡ length before + 1
  pub counted : length before + length kept.window ≡ kept.total
  pub most : length kept.window ≤ kept.limit
  pub least : min kept.total (kept.limit - 1) ≤ length kept.window
  pub some : 1 ≤ kept.limit
  pub lags : settings kept.opening ≡ lagging_of (settings kept.book)
  pub timely : AreTimely kept.window
  pub few : kept.total < 2 ^ 62
  pub few_callers : kept.callers ≤ 2 ^ 62

-- The same of what lies under the lock of a shared book that was made with these settings.
pub record IsKeptAs {B : Type 0} (stands_for : B → List Event → Type 0) (made_with : B → Settings) (settings : Settings) (state : KeptState B) : Type 0 where
  pub kept : IsKept stands_for made_with state
  pub same_settings : made_with state.book ≡ settings

-- The window is the same, and the opening book stands for what it did.
pub record HasStayed {B : Type 0} (stands_for : B → List Event → Type 0) (before after : KeptState B) : Type 0 where
  pub window : after.window ≡ before.window
  pub first : after.first ≡ before.first
  pub opening : (h : List Event) → stands_for before.opening h → stands_for after.opening h

-- The window was full. Its oldest call has left it, and the opening book has taken the event of that call.
pub record HasMovedOn {B : Type 0} (stands_for : B → List Event → Type 0) (before after : KeptState B) : Type 0 where
  pub full : length before.window ≡ before.limit
  pub oldest : Receipt
  pub window : before.window ≡ oldest ∷ after.window
  pub first : after.first ≡ before.first + 1
  pub opening : (h : List Event) → stands_for before.opening h → stands_for after.opening (h ++ oldest.event ∷ [])

-- The window has stayed as it was, or has moved on by one call. Nothing else has changed.
pub record MovesOn {B : Type 0} (stands_for : B → List Event → Type 0) (settings : B → Settings) (before after : KeptState B) : Type 0 where
  pub moved : HasStayed stands_for before after ⊎ HasMovedOn stands_for before after
  pub same_settings : settings after.opening ≡ settings before.opening
  pub same_book : after.book ≡ before.book
  pub same_limit : after.limit ≡ before.limit
  pub same_total : after.total ≡ before.total
  pub same_callers : after.callers ≡ before.callers

-- One call more was taken, and is the last of the window.
pub record IsCalled {B : Type 0} (before after : KeptState B) (pass : PassState) (event : Event) (reply : Reply) (pass' : PassState) : Type 0 where
  pub total : after.total ≡ before.total + 1
  pub window : after.window ≡ before.window ++ receipt_for after.total pass.caller event reply ∷ []
  pub opening : after.opening ≡ before.opening
  pub first : after.first ≡ before.first
  pub limit : after.limit ≡ before.limit
  pub callers : after.callers ≡ before.callers
  pub counted : pass' ≡ after_call pass after.total

-- Nothing but the books may have changed.
pub record IsSameRecord {B : Type 0} (before after : KeptState B) : Type 0 where
  pub first : after.first ≡ before.first
  pub window : after.window ≡ before.window
  pub limit : after.limit ≡ before.limit
  pub total : after.total ≡ before.total
  pub callers : after.callers ≡ before.callers

-- Some memory was freed of what no reply can show any more. No call was made, each book stands for what it did, and the book stores no more.
pub record IsFreed {B : Type 0} (stands_for : B → List Event → Type 0) (settings : B → Settings) (stored : B → ℕ) (before after : KeptState B) : Type 0 where
  pub stands : (h : List Event) → stands_for before.book h → stands_for after.book h
  pub opening : (h : List Event) → stands_for before.opening h → stands_for after.opening h
  pub no_more : stored after.book ≤ stored before.book
  pub same_settings : (settings after.book ≡ settings before.book) × (settings after.opening ≡ settings before.opening)
  pub same_record : IsSameRecord before after

-- One turn of a sweep, of one of the books or of both. If there may be more, less is left in them together than before. If not, nothing is left.
pub record IsTurn {B : Type 0} (stands_for : B → List Event → Type 0) (settings : B → Settings) (stored unswept : B → ℕ) (before : KeptState B) (more : Bool) (after : KeptState B) : Type 0 where
  pub freed : IsFreed stands_for settings stored before after
  pub fewer : more ≡ true → unswept after.book + unswept after.opening < unswept before.book + unswept before.opening
  pub none : more ≡ false → (unswept after.book ≡ 0) × (unswept after.opening ≡ 0)

-- A turn at a shared book that was made with these settings: it is a turn of what lay under the lock.
pub record IsTurnThere {B : Type 0} (stands_for : B → List Event → Type 0) (made_with : B → Settings) (stored unswept : B → ℕ) (settings : Settings) (more : Bool) : Type 0 where
  pub before : KeptState B
  pub after : KeptState B
  pub there : IsKeptAs stands_for made_with settings before
  pub turn : IsTurn stands_for made_with stored unswept before more after

-- A sweep has done enough: of the whole, nothing is left in both books; for room, the book stores fewer cells than it may, or has nothing left.
abbrev pub IsEnough : {B : Type 0} → (B → Settings) → (B → ℕ) → (B → ℕ) → Bool → KeptState B → Type 0
IsEnough settings stored unswept true kept = (unswept kept.book ≡ 0) × (unswept kept.opening ≡ 0)
IsEnough settings stored unswept false kept = (stored kept.book < (settings kept.book).cells) ⊎ (unswept kept.book ≡ 0)

-- At most one turn of a sweep, of the whole or for room. If another one is wanted, less is left in the books together than before. If not, it is enough.
pub record IsTurnFor {B : Type 0} (stands_for : B → List Event → Type 0) (settings : B → Settings) (stored unswept : B → ℕ) (whole : Bool) (before : KeptState B) (more : Bool) (after : KeptState B) : Type 0 where
  pub freed : IsFreed stands_for settings stored before after
  pub fewer : more ≡ true → unswept after.book + unswept after.opening < unswept before.book + unswept before.opening
  pub enough : more ≡ false → IsEnough settings stored unswept whole after

-- Such a turn at a shared book that was made with these settings, under one hold of the lock.
pub record IsTurnForThere {B : Type 0} (stands_for : B → List Event → Type 0) (made_with : B → Settings) (stored unswept : B → ℕ) (settings : Settings) (whole more : Bool) : Type 0 where
  pub before : KeptState B
  pub after : KeptState B
  pub there : IsKeptAs stands_for made_with settings before
  pub turn : IsTurnFor stands_for made_with stored unswept whole before more after

-- A sweep by turns, each under a hold of its own: the last was enough, or so many were taken, after each of which another one was wanted.
abbrev pub IsSweepThere : {B : Type 0} → (B → List Event → Type 0) → (B → Settings) → (B → ℕ) → (B → ℕ) → Settings → Bool → ℕ → Type 0
IsSweepThere stands_for made_with stored unswept settings whole most =
    IsTurnForThere stands_for made_with stored unswept settings whole false
    ⊎ ((turns : List (IsTurnForThere stands_for made_with stored unswept settings whole true)) × (length turns ≡ most))

-- The book takes an event where the window has room. A call that got a reply is counted, and is the last of the window. After a fault all but the book is as it was, and the book as its promise says.
pub record IsTaken {B : Type 0} (stands_for : B → List Event → Type 0) (settings : B → Settings) (stored : B → ℕ) (before : KeptState B) (pass : PassState) (event : Event) (answer : Result Reply StepFault) (after : KeptState B) (pass' : PassState) : Type 0 where
  pub book : IsBookStep stands_for settings stored before.book event answer after.book
  pub called : IfOk answer (λ reply. IsCalled before after pass event reply pass')
  pub same_record : OnErr answer (IsSameRecord before after)
  pub same_opening : OnErr answer (after.opening ≡ before.opening)
  pub same_pass : OnErr answer (pass' ≡ pass)

-- A timely event met want of memory before the book was asked. Nothing has changed.
pub record IsRefused {B : Type 0} (before : KeptState B) (pass : PassState) (event : Event) (answer : Result Reply StepFault) (after : KeptState B) (pass' : PassState) : Type 0 where
  pub timely : IsTimely before.total event
  pub told : answer ≡ Err NoMemory
  pub same : after ≡ before
  pub same_pass : pass' ≡ pass

-- There was no memory to let the oldest call leave the window, which is still full.
abbrev pub HasNoRoom : {B : Type 0} → KeptState B → PassState → Event → Result Reply StepFault → KeptState B → PassState → Type 0
HasNoRoom before pass event answer after pass' = (before.limit ≤ length before.window) × IsRefused before pass event answer after pass'

-- One step under the lock: what lay there and the pass, the event, the answer, and both afterwards. First the window moves on if it is full, and then the book takes the event. So a fault may leave the window moved on, and the opening book with it, and changes nothing else. Only where the window is still full is want of memory not the book's own answer.
pub record IsStep {B : Type 0} (stands_for : B → List Event → Type 0) (settings : B → Settings) (stored : B → ℕ) (before : KeptState B) (pass : PassState) (event : Event) (answer : Result Reply StepFault) (after : KeptState B) (pass' : PassState) : Type 0 where
  pub between : KeptState B
  pub moves : MovesOn stands_for settings before between
  pub room : OnOk answer (length between.window < between.limit)
  pub taken : IsTaken stands_for settings stored between pass event answer after pass' ⊎ HasNoRoom between pass event answer after pass'

-- A step whose event is copied first, which may find no memory if the event is more than a moment and a ticket.
abbrev pub IsCopiedStep : {B : Type 0} → (B → List Event → Type 0) → (B → Settings) → (B → ℕ) → KeptState B → PassState → Event → Result Reply StepFault → KeptState B → PassState → Type 0
IsCopiedStep stands_for settings stored before pass event answer after pass' =
    (¬ (is_plain event ≡ true) × IsRefused before pass event answer after pass') ⊎ IsStep stands_for settings stored before pass event answer after pass'

-- A step with this fault changes nothing, whatever the pass.
abbrev pub IsIdleStep : {B : Type 0} → (B → List Event → Type 0) → (B → Settings) → (B → ℕ) → KeptState B → Event → StepFault → Type 0
IsIdleStep stands_for made_with stored state event fault = (pass : PassState) → IsStep stands_for made_with stored state pass event (Err fault) state pass

-- The oldest call leaves the window without memory: its event is copied without any, and the opening book takes it without any.
pub record LeavesFree {B : Type 0} (is_free : B → Event → Type 0) (before : KeptState B) : Type 0 where
  pub oldest : Receipt
  pub later : List Receipt
  pub window : before.window ≡ oldest ∷ later
  pub plain : is_plain oldest.event ≡ true
  pub free : is_free before.opening oldest.event

-- Room for one call more takes no memory: the window is not full, or its oldest call leaves it without any.
abbrev pub HasFreeRoom : {B : Type 0} → (B → Event → Type 0) → KeptState B → Type 0
HasFreeRoom is_free before = (length before.window < before.limit) ⊎ LeavesFree is_free before

-- If room for a call takes no memory, a call that lacks memory met it at a step of the book.
abbrev pub LacksByBook : {B : Type 0} → (B → List Event → Type 0) → (B → Settings) → (B → ℕ) → (B → Event → Type 0) → KeptState B → Event → Type 0 → KeptState B → Type 0
LacksByBook stands_for made_with stored is_free before event lacks after =
    HasFreeRoom is_free before → lacks → IsBookStep stands_for made_with stored before.book event (Err NoMemory) after.book

-- A call of this event takes no memory: the event is copied without any, the book takes it without any, and room for the call takes none.
pub record IsFreeCall {B : Type 0} (is_free : B → Event → Type 0) (before : KeptState B) (event : Event) : Type 0 where
  pub plain : is_plain event ≡ true
  pub free : is_free before.book event
  pub room : HasFreeRoom is_free before

-- such a state is stored as the tuple of its fields
abbrev pub kept_code : {B : Type 0} → Coded B → Coded Receipt → Coded (KeptState B)
kept_code {B} b r =
    code_by (B × (B × (ℕ × (List Receipt × (ℕ × (ℕ × ℕ)))))) (coded× b (coded× b (coded× coded_ℕ (coded× (coded_list r) (coded× coded_ℕ (coded× coded_ℕ coded_ℕ))))))
    (λ k. (k.book, (k.opening, (k.first, (k.window, (k.limit, (k.total, k.callers)))))))
    (λ p. record { book = p.0; opening = p.1.0; first = p.1.1.0; window = p.1.1.1.0; limit = p.1.1.1.1.0; total = p.1.1.1.1.1.0; callers = p.1.1.1.1.1.1 })
    (λ _. refl)
