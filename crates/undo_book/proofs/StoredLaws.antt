-- What a plain book counts after one event more.
use Rattle.std.proofs.Common.{◌≡◌, ℕ, ◌+◌, ◌≤◌, Bool, true, false, cond, List, [], ◌∷◌, ◌++◌, length, refl, sym, ◌∙◌, ap, inl, inr, arith}
use Rattle.std.specs.Prelude.{fold, not, ◌&&◌, ◌||◌, Result, Ok, Err}
use Rattle.std.specs.List.{list_any}
use Rattle.std.proofs.lemmas.Bool.{cases_Bool}
use Rattle.std.proofs.lemmas.List.{append-nil, append_assoc, map-append}
use Rattle.std.proofs.lemmas.List.Folds.{list_any-append}
use Rattle.dns_name.specs.Labels.{Labels}
use Rattle.dns_name.specs.Order.{name_eq, name_eq_exact}
use Rattle.ranked.specs.declared.find.Find.{Find}
use Rattle.history.specs.declared.event.Event.{Event}
use Rattle.history.specs.declared.event.Event.TheVariants.{Admit, Look, Sweep, Forget, Do, Undo, Redo, UndoOf, RedoOf}
use Rattle.history.specs.declared.event.Entry.{Entry}
use Rattle.history.specs.declared.event.Reply.{Reply}
use Rattle.history.specs.declared.event.Settings.{Settings}
use Rattle.history.specs.declared.book.StepFault.{StepFault}
use Rattle.history.specs.declared.book.StepFault.TheVariants.{BadMoment, CountEnded, Full, NoMemory}
use Rattle.history.specs.Answers.{AnswersBy}
use Rattle.history.specs.Counts.{counted_in, counted_of, counted_once}
use Rattle.history.specs.Event.{forgets}
use Rattle.undo_book.specs.declared.log.Logged.{Logged}
use Rattle.undo_book.specs.Plain.{entries_in}
use Rattle.undo_book.specs.Stored.{admits, counted_at, counted_then, events_of}

-- ---- the admissions of one name

-- a forget is no admission
no_admission : (name : Labels) (event : Event) → forgets name event ≡ true → admits name event ≡ false
no_admission name (Admit m f) is = absurd cc
no_admission name (Look m a) is = refl
no_admission name (Sweep m) is = refl
no_admission name (Forget m owner) is = refl
no_admission name (Do m c) is = refl
no_admission name (Undo m) is = refl
no_admission name (Redo m) is = refl
no_admission name (UndoOf m named) is = refl
no_admission name (RedoOf m named) is = refl

abbrev one_if : Bool → ℕ
one_if b = cond b 1 0

none_left : (admitted later : Bool) → one_if (admitted && not (later || true)) ≡ 0
none_left true true = refl
none_left true false = refl
none_left false later = refl

as_before : (admitted later : Bool) → one_if (admitted && not (later || false)) ≡ one_if (admitted && not later)
as_before true true = refl
as_before true false = refl
as_before false later = refl

one_alone : (admitted : Bool) → one_if (admitted && true) ≡ one_if admitted
one_alone true = refl
one_alone false = refl

-- whether a later event forgets the name, with one event more
later_forget : (name : Labels) (events : List Event) (e : Event) (b : Bool) → forgets name e ≡ b → list_any (forgets name) (events ++ e ∷ []) ≡ (list_any (forgets name) events || b)
later_forget name events e true is = list_any-append (forgets name) events (e ∷ []) ∙ rw is refl
later_forget name events e false is = list_any-append (forgets name) events (e ∷ []) ∙ rw is refl

forgotten : (name : Labels) (events : List Event) (e : Event) → forgets name e ≡ true → counted_at name (events ++ e ∷ []) ≡ 0
forgotten name [] e is = rw (no_admission name e is) refl
forgotten name (x ∷ events) e is =
    let first : one_if (admits name x && not (list_any (forgets name) (events ++ e ∷ []))) ≡ 0 =
    ap (λ (b : Bool). one_if (admits name x && not b)) (later_forget name events e true is) ∙ none_left (admits name x) (list_any (forgets name) events) in
    omega (arith, first, forgotten name events e is)

kept : (name : Labels) (events : List Event) (e : Event) → forgets name e ≡ false → counted_at name (events ++ e ∷ []) ≡ counted_at name events + cond (admits name e) 1 0
kept name [] e is = omega (arith, one_alone (admits name e))
kept name (x ∷ events) e is =
    let first : one_if (admits name x && not (list_any (forgets name) (events ++ e ∷ []))) ≡ one_if (admits name x && not (list_any (forgets name) events)) =
    ap (λ (b : Bool). one_if (admits name x && not b)) (later_forget name events e false is) ∙ as_before (admits name x) (list_any (forgets name) events) in
    omega (arith, first, kept name events e is)

-- One event more changes the count as `counted_then` says.
pub counted_at_push : (name : Labels) (events : List Event) (e : Event) → counted_at name (events ++ e ∷ []) ≡ counted_then name (counted_at name events) e
counted_at_push name events e =
    elim (cases_Bool (forgets name e)) [
      | inl is ↦ rw is (forgotten name events e is)
      | inr not_this ↦ rw not_this (kept name events e not_this)
    ]

-- ---- all admissions

-- Any event but a forget adds itself if it is an admission.
once_before : (x : Event) (events : List Event) (e : Event) → ((name : Labels) → forgets name e ≡ false) → counted_once x (events ++ e ∷ []) ≡ counted_once x events
once_before (Admit m f) events e none = ap (λ (b : Bool). cond b 0 1) (later_forget f.owner events e false (none f.owner) ∙ or_false (list_any (forgets f.owner) events))
  where
    or_false : (b : Bool) → (b || false) ≡ b
    or_false true = refl
    or_false false = refl
once_before (Look m a) events e none = refl
once_before (Sweep m) events e none = refl
once_before (Forget m owner) events e none = refl
once_before (Do m c) events e none = refl
once_before (Undo m) events e none = refl
once_before (Redo m) events e none = refl
once_before (UndoOf m named) events e none = refl
once_before (RedoOf m named) events e none = refl

pub counted_push : (events : List Event) (e : Event) → ((name : Labels) → forgets name e ≡ false) → counted_of (events ++ e ∷ []) ≡ counted_of events + counted_once e []
counted_push [] e none = omega arith
counted_push (x ∷ events) e none = omega (arith, once_before x events e none, counted_push events e none)

pub other_event : (events : List Event) (e : Event) → ((m : ℕ) (find : Find) → e ≡ Admit m find → ⊥) → ((m : ℕ) (owner : Labels) → e ≡ Forget m owner → ⊥)
    → counted_of events ≡ counted_of (events ++ e ∷ [])
other_event events (Admit m f) no_find no_forget = absurd (no_find m f refl)
other_event events (Look m a) no_find no_forget = omega (arith, counted_push events (Look m a) (λ name. refl))
other_event events (Sweep m) no_find no_forget = omega (arith, counted_push events (Sweep m) (λ name. refl))
other_event events (Forget m owner) no_find no_forget = absurd (no_forget m owner refl)
other_event events (Do m c) no_find no_forget = omega (arith, counted_push events (Do m c) (λ name. refl))
other_event events (Undo m) no_find no_forget = omega (arith, counted_push events (Undo m) (λ name. refl))
other_event events (Redo m) no_find no_forget = omega (arith, counted_push events (Redo m) (λ name. refl))
other_event events (UndoOf m named) no_find no_forget = omega (arith, counted_push events (UndoOf m named) (λ name. refl))
other_event events (RedoOf m named) no_find no_forget = omega (arith, counted_push events (RedoOf m named) (λ name. refl))

-- A forget takes off what is counted of its name.
gone : (later : Bool) → cond (later || true) 0 1 + cond (true && not later) 1 0 ≡ cond later 0 1
gone true = refl
gone false = refl

stays : (later : Bool) → cond (later || false) 0 1 + cond (false && not later) 1 0 ≡ cond later 0 1
stays true = refl
stays false = refl

same_name : (m n : ℕ) (name : Labels) (f : Find) (events : List Event) → name_eq name f.owner ≡ true
    → counted_once (Admit n f) (events ++ Forget m name ∷ []) + cond (name_eq name f.owner && not (list_any (forgets name) events)) 1 0 ≡ counted_once (Admit n f) events
same_name m n name f events is =
    let one : list_any (forgets f.owner) (events ++ Forget m name ∷ []) ≡ (list_any (forgets f.owner) events || true) = later_forget f.owner events (Forget m name) true is in
    let other : list_any (forgets name) events ≡ list_any (forgets f.owner) events = ap (λ (l : Labels). list_any (forgets l) events) (name_eq_exact name f.owner is) in
    rw (is, one, other) (gone (list_any (forgets f.owner) events))

other_name : (m n : ℕ) (name : Labels) (f : Find) (events : List Event) → name_eq name f.owner ≡ false
    → counted_once (Admit n f) (events ++ Forget m name ∷ []) + cond (name_eq name f.owner && not (list_any (forgets name) events)) 1 0 ≡ counted_once (Admit n f) events
other_name m n name f events is =
    let one : list_any (forgets f.owner) (events ++ Forget m name ∷ []) ≡ (list_any (forgets f.owner) events || false) = later_forget f.owner events (Forget m name) false is in
    rw (is, one) (stays (list_any (forgets f.owner) events))

one_forgotten : (m : ℕ) (name : Labels) (x : Event) (events : List Event)
    → counted_once x (events ++ Forget m name ∷ []) + cond (admits name x && not (list_any (forgets name) events)) 1 0 ≡ counted_once x events
one_forgotten m name (Admit n f) events =
    elim (cases_Bool (name_eq name f.owner)) [ inl is ↦ same_name m n name f events is | inr apart ↦ other_name m n name f events apart ]
one_forgotten m name (Look n a) events = refl
one_forgotten m name (Sweep n) events = refl
one_forgotten m name (Forget n owner) events = refl
one_forgotten m name (Do n c) events = refl
one_forgotten m name (Undo n) events = refl
one_forgotten m name (Redo n) events = refl
one_forgotten m name (UndoOf n named) events = refl
one_forgotten m name (RedoOf n named) events = refl

pub counted_forget : (m : ℕ) (name : Labels) (events : List Event) → counted_of (events ++ Forget m name ∷ []) + counted_at name events ≡ counted_of events
counted_forget m name [] = refl
counted_forget m name (x ∷ events) = omega (arith, one_forgotten m name x events, counted_forget m name events)

-- ---- a log has no more of them than entries

once_few : (e : Event) (events : List Event) → counted_once e events ≤ 1
once_few (Admit m f) events = by_bool (list_any (forgets f.owner) events)
  where
    by_bool : (b : Bool) → cond b 0 1 ≤ 1
    by_bool true = omega arith
    by_bool false = omega arith
once_few (Look m a) events = omega arith
once_few (Sweep m) events = omega arith
once_few (Forget m owner) events = omega arith
once_few (Do m c) events = omega arith
once_few (Undo m) events = omega arith
once_few (Redo m) events = omega arith
once_few (UndoOf m named) events = omega arith
once_few (RedoOf m named) events = omega arith

pub counted_within : (log : List Logged) → counted_of (events_of log) ≤ length log
counted_within [] = omega arith
counted_within (l ∷ log) = omega (arith, once_few l.entry.event (events_of log), counted_within log)

-- ---- a walk along a log

-- the count after an entry more
abbrev pub counted_past : Labels → ℕ → Logged → ℕ
counted_past name counted logged = counted_then name counted logged.entry.event

one_more : (forgets admits : Bool) (n : ℕ) → cond forgets 0 (n + cond admits 1 0) ≤ n + 1
one_more true admits n = omega arith
one_more false true n = omega arith
one_more false false n = omega arith

pub walked_within : (name : Labels) (n : ℕ) (log : List Logged) → fold (counted_past name) n log ≤ n + length log
walked_within name n [] = omega arith
walked_within name n (l ∷ log) =
    omega (arith, one_more (forgets name l.entry.event) (admits name l.entry.event) n, walked_within name (counted_past name n l) log)

walked_on : (name : Labels) (before : List Event) (log : List Logged) → fold (counted_past name) (counted_at name before) log ≡ counted_at name (before ++ events_of log)
walked_on name before [] = ap (counted_at name) (sym (append-nil before))
walked_on name before (l ∷ log) =
    ap (λ (n : ℕ). fold (counted_past name) n log) (sym (counted_at_push name before l.entry.event))
    ∙ walked_on name (before ++ l.entry.event ∷ []) log
    ∙ ap (counted_at name) (append_assoc before (l.entry.event ∷ []) (events_of log))

pub walked : (name : Labels) (log : List Logged) → fold (counted_past name) 0 log ≡ counted_at name (events_of log)
walked name log = walked_on name [] log

-- ---- a history with an entry more

pub counted_after : (log : List Logged) (e : Entry) → counted_in (entries_in log ++ e ∷ []) ≡ counted_of (events_of log ++ e.event ∷ [])
counted_after log e = ap counted_of (map-append (λ (entry : Entry). entry.event) (entries_in log) (e ∷ []))

-- What may be answered after so many admissions may be answered after more.
pub answers_for_more : (settings : Settings) (count few many : ℕ) (told : Reply) (event : Event) (answer : Result Reply StepFault)
    → few ≤ many → AnswersBy settings count few told event answer → AnswersBy settings count many told event answer
answers_for_more settings count few many told event (Ok reply) le h = h
answers_for_more settings count few many told event (Err BadMoment) le h = h
answers_for_more settings count few many told event (Err CountEnded) le h = h
answers_for_more settings count few many told event (Err (Full stored)) le h = (h.0, h.1, h.2, let within = h.3 in omega arith)
answers_for_more settings count few many told event (Err NoMemory) le h = h
