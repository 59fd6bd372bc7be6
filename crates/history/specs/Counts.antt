-- The log of a history has each of its events once. What a book stores that stores each admission until its owner is forgotten.
use Rattle.std.specs.Prelude.{◌≡◌, ℕ, ◌+◌, ◌≤◌, Bool, true, false, List, [], ◌∷◌, ◌++◌, length, count_by, fold, map, if◌then◌else◌}
use Rattle.std.specs.List.{list_any}
use Rattle.std.proofs.Common.{arith, ap, cond, max, sym, ◌∙◌, length-append, append_assoc}
use Rattle.std.proofs.lemmas.List.{append-nil, map-append}
use Rattle.std.proofs.lemmas.List.Sums.{sum_by-append}
use Rattle.history.specs.declared.event.Event.{Event}
use Rattle.history.specs.declared.event.Event.TheVariants.{Admit, Look, Sweep, Forget, Do, Undo, Redo, UndoOf, RedoOf}
use Rattle.history.specs.declared.event.Entry.{Entry}
use Rattle.history.specs.Event.{is_admission, forgets, moment_of}
use Rattle.history.specs.History.{Past, past_of, followed_by, ticket_for}

-- 1 for an admission that no later forget of its owner follows, else 0
abbrev pub counted_once : Event → List Event → ℕ
counted_once (Admit moment find) later = if list_any (forgets find.owner) later then 0 else 1
counted_once event later = 0

-- how many admissions of a history no later forget of their owner follows
abbrev pub counted_of : List Event → ℕ
counted_of [] = 0
counted_of (event ∷ later) = counted_once event later + counted_of later

-- the events of a log
abbrev pub events_in : List Entry → List Event
events_in log = map (λ entry. entry.event) log

-- how many admissions of a log no later forget of their owner follows
abbrev pub counted_in : List Entry → ℕ
counted_in log = counted_of (events_in log)

events_after : (bound : ℕ) (past : Past) (events : List Event) → events_in (fold (followed_by bound) past events).log ≡ events_in past.log ++ events
events_after bound past [] = sym (append-nil (events_in past.log))
events_after bound past (e ∷ events) =
    let next = followed_by bound past e in
    let entry : Entry = record { event = e; moment = max past.now (moment_of e); ticket = ticket_for past e } in
    events_after bound next events
    ∙ ap (λ (l : List Event). l ++ events) (map-append (λ (entry : Entry). entry.event) past.log (entry ∷ []))
    ∙ append_assoc (events_in past.log) (e ∷ []) events

pub events_of_log : (bound : ℕ) (past : Past) (history : List Event) → past ≡ past_of bound history → events_in past.log ≡ history
events_of_log bound past history is = ap (λ (p : Past). events_in p.log) is ∙ events_after bound (past_of bound []) history

pub counted_of_log : (bound : ℕ) (past : Past) (history : List Event) → past ≡ past_of bound history → counted_in past.log ≡ counted_of history
counted_of_log bound past history is = ap counted_of (events_of_log bound past history is)

at_most_once : (b : Bool) → cond b 0 1 ≤ 1
at_most_once true = omega arith
at_most_once false = omega arith

counted_once_few : (event : Event) (later : List Event) → counted_once event later ≤ cond (is_admission event) 1 0
counted_once_few (Admit moment find) later = at_most_once (list_any (forgets find.owner) later)
counted_once_few (Look moment ask) later = omega arith
counted_once_few (Sweep moment) later = omega arith
counted_once_few (Forget moment owner) later = omega arith
counted_once_few (Do moment command) later = omega arith
counted_once_few (Undo moment) later = omega arith
counted_once_few (Redo moment) later = omega arith
counted_once_few (UndoOf moment named) later = omega arith
counted_once_few (RedoOf moment named) later = omega arith

-- No more are counted than were admitted.
pub counted_few : (events : List Event) → counted_of events ≤ count_by is_admission events
counted_few [] = omega arith
counted_few (e ∷ events) =
    let first : count_by is_admission (e ∷ events) ≡ 0 + cond (is_admission e) 1 0 + count_by is_admission events = sum_by-append (λ event. cond (is_admission event) 1 0) (e ∷ []) events in
    omega (arith, first, counted_once_few e events, counted_few events)

-- what a book stores that stores each admission until its owner is forgotten
pub stores_counted : (bound : ℕ) (past : Past) (history : List Event) (stored : ℕ) → stored ≡ counted_in past.log → past ≡ past_of bound history → stored ≤ count_by is_admission history
stores_counted bound past history stored counted is = omega (arith, counted, counted_of_log bound past history is, counted_few history)

length_after : (bound : ℕ) (past : Past) (events : List Event) → length (fold (followed_by bound) past events).log ≡ length past.log + length events
length_after bound past [] = omega arith
length_after bound past (e ∷ events) =
    let next = followed_by bound past e in
    omega (arith, length_after bound next events, length-append {A = Entry})

pub length_of_log : (bound : ℕ) (past : Past) (history : List Event) → past ≡ past_of bound history → length past.log ≡ length history
length_of_log bound past history is = omega (arith, ap (λ (p : Past). length p.log) is, length_after bound (past_of bound []) history)

-- Histories that come to the same have as many events.
pub same_count : (bound : ℕ) (past : Past) (h k : List Event) → past ≡ past_of bound h → past ≡ past_of bound k → length h ≡ length k
same_count bound past h k is also = sym (length_of_log bound past h is) ∙ length_of_log bound past k also
