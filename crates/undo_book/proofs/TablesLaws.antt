-- Local zones, records and stubs after one event more, and by a replay of a log with flags.
use Rattle.std.proofs.Common.{◌≡◌, ℕ, Bool, true, false, cond, Option, Some, None, List, [], ◌∷◌, ◌++◌, map, refl, sym, ◌∙◌, ap, inl, inr}
use Rattle.std.specs.Prelude.{fold, filter, not}
use Rattle.std.specs.Option.{option_map_or}
use Rattle.std.proofs.lemmas.Bool.{cases_Bool}
use Rattle.std.proofs.lemmas.List.{append-nil}
use Rattle.std.proofs.lemmas.List.Elements.{filter-append}
use Rattle.std.proofs.lemmas.List.Sums.{fold-append}
use Rattle.history.specs.declared.tables.Tables.{Tables}
use Rattle.history.specs.declared.event.Event.TheVariants.{Admit, Look, Do, Undo, Redo, UndoOf, RedoOf}
use Rattle.history.specs.declared.event.Ask.{Ask}
use Rattle.history.specs.declared.event.Command.{Command}
use Rattle.history.specs.declared.event.Entry.{Entry}
use Rattle.history.specs.declared.event.Reason.{Reason}
use Rattle.undo_book.specs.declared.log.Logged.{Logged}
use Rattle.ranked.specs.declared.find.Find.{Find}
use Rattle.history.specs.Marks.{Marks, last_of, strike, restore, after_command}
use Rattle.history.specs.Tickets.{InOne}
use Rattle.history.specs.History.{Past, followed_by, marks_after, ticket_unless, reason_of, standing_with, stands_by, is_unstruck, stands, tables_of, unless_buried}
use Rattle.history.specs.Changes.{no_tables, tables_after, tables_by, unless_refused}
use Rattle.history.specs.Journal.{commands_of, is_among, over, under}
use Rattle.history.specs.Reply.{reply_to_redo, reply_to_redo_of, reply_to_undo, reply_to_undo_of}
use Rattle.undo_book.specs.Plain.{entries_in, with_flag, AreFlagged}
use Rattle.undo_book.specs.Replayed.{tables_after_logged, tables_after_flagged, tables_by_reply}
use Rattle.undo_book.proofs.PlainLaws.{flag_tells, new_by_reason, struck_flags, stands_flags, entries_flagged}

-- ---- a replay by the flags

pub tables_by_flags : (marks : Marks) (log : List Logged) (t : Tables) → AreFlagged marks.struck log → fold tables_after_logged t log ≡ fold tables_after t (standing_with (is_unstruck marks) (entries_in log))
tables_by_flags marks [] t h = refl
tables_by_flags marks (l ∷ log) t h =
    let same : stands_by (λ t. not l.struck) l.entry.event l.entry.ticket ≡ stands marks l.entry = flag_tells marks l.entry.event l.entry.ticket l.struck h.0 in
    elim (cases_Bool (stands marks l.entry)) [
      | inl standing ↦ rw (same, standing) (tables_by_flags marks log (tables_after t l.entry) h.1)
      | inr struck ↦ rw (same, struck) (tables_by_flags marks log t h.1)
    ]

flag_first : (ticket : ℕ) (flag : Bool) (log : List Logged) (t : Tables) → fold (tables_after_flagged ticket flag) t log ≡ fold tables_after_logged t (map (with_flag ticket flag) log)
flag_first ticket flag [] t = refl
flag_first ticket flag (l ∷ log) t = flag_first ticket flag log (tables_after_flagged ticket flag t l)

-- where the flags, one of them changed, tell what these marks have struck
pub replayed : (marks : Marks) (ticket : ℕ) (flag : Bool) (log : List Logged) → AreFlagged marks.struck (map (with_flag ticket flag) log)
    → fold (tables_after_flagged ticket flag) no_tables log ≡ tables_by (standing_with (is_unstruck marks) (entries_in log))
replayed marks ticket flag log h =
    flag_first ticket flag log no_tables
    ∙ tables_by_flags marks (map (with_flag ticket flag) log) no_tables h
    ∙ ap (λ (es : List Entry). tables_by (standing_with (is_unstruck marks) es)) (entries_flagged ticket flag log)

-- ---- one event more

-- an entry that is not in force
left_out : (marks : Marks) (log : List Entry) (e : Entry) → stands marks e ≡ false → tables_by (filter (stands marks) (log ++ e ∷ [])) ≡ tables_by (filter (stands marks) log)
left_out marks log e out =
    let same : filter (stands marks) (log ++ e ∷ []) ≡ filter (stands marks) log = filter-append (stands marks) log (e ∷ []) ∙ rw out (append-nil (filter (stands marks) log)) in
    ap tables_by same

-- an entry that is in force
taken_in : (marks : Marks) (log : List Entry) (e : Entry) → stands marks e ≡ true → tables_by (filter (stands marks) (log ++ e ∷ [])) ≡ tables_after (tables_by (filter (stands marks) log)) e
taken_in marks log e stays =
    let itself : filter (stands marks) (e ∷ []) ≡ e ∷ [] = ap (λ (b : Bool). cond b (e ∷ []) []) stays in
    let more : filter (stands marks) (log ++ e ∷ []) ≡ filter (stands marks) log ++ e ∷ [] = filter-append (stands marks) log (e ∷ []) ∙ ap (λ (l : List Entry). filter (stands marks) log ++ l) itself in
    ap tables_by more
    ∙ fold-append tables_after no_tables (filter (stands marks) log) (e ∷ [])

pub tables_admitted : (bound : ℕ) (past : Past) (m : ℕ) (find : Find) → tables_of (followed_by bound past (Admit m find)) ≡ tables_of past
tables_admitted bound past m find = taken_in past.marks past.log _ refl

pub tables_looked : (bound : ℕ) (past : Past) (m : ℕ) (ask : Ask) → tables_of (followed_by bound past (Look m ask)) ≡ tables_of past
tables_looked bound past m ask = left_out past.marks past.log _ refl

commanded : (bound : ℕ) (marks : Marks) (log : List Entry) (moment m : ℕ) (c : Command) (o : Option Reason) → ((t : ℕ) → InOne marks t)
    → tables_by (filter (stands (marks_after bound marks (Do m c) (ticket_unless marks o))) (log ++ (record { event = Do m c; moment = moment; ticket = ticket_unless marks o }) ∷ []))
    ≡ unless_refused o c (tables_by (filter (stands marks) log))
commanded bound marks log moment m c None h = taken_in (after_command bound marks) log _ (ap not (new_by_reason marks None h))
commanded bound marks log moment m c (Some reason) h = left_out marks log _ refl

pub tables_commanded : (bound : ℕ) (past : Past) (m : ℕ) (c : Command) → ((t : ℕ) → InOne past.marks t)
    → tables_of (followed_by bound past (Do m c)) ≡ unless_refused (reason_of past c) c (tables_of past)
tables_commanded bound past m c h = commanded bound past.marks past.log _ m c (reason_of past c) h

undone : (marks : Marks) (log : List Logged) (e : Entry) (o : Option ℕ) → AreFlagged marks.struck log → ((k : Marks) → stands k e ≡ false)
    → tables_by (filter (stands (option_map_or (strike marks) o marks)) (entries_in log ++ e ∷ [])) ≡ tables_by_reply (reply_to_undo o) log (tables_by (filter (stands marks) (entries_in log)))
undone marks log e None h gone = left_out marks (entries_in log) e (gone marks)
undone marks log e (Some t) h gone = left_out (strike marks t) (entries_in log) e (gone (strike marks t)) ∙ sym (replayed (strike marks t) t true log (struck_flags marks.struck t log h))

pub tables_undone : (bound now m : ℕ) (marks : Marks) (log : List Logged) → AreFlagged marks.struck log
    → tables_of (followed_by bound (record { now = now; marks = marks; log = entries_in log }) (Undo m))
    ≡ tables_by_reply (reply_to_undo (last_of marks.done)) log (tables_of (record { now = now; marks = marks; log = entries_in log }))
tables_undone bound now m marks log h = undone marks log _ (last_of marks.done) h (λ k. refl)

redone : (marks : Marks) (log : List Logged) (e : Entry) (o : Option ℕ) → AreFlagged marks.struck log → ((k : Marks) → stands k e ≡ false)
    → tables_by (filter (stands (option_map_or (restore marks) o marks)) (entries_in log ++ e ∷ [])) ≡ tables_by_reply (reply_to_redo o) log (tables_by (filter (stands marks) (entries_in log)))
redone marks log e None h gone = left_out marks (entries_in log) e (gone marks)
redone marks log e (Some t) h gone = left_out (restore marks t) (entries_in log) e (gone (restore marks t)) ∙ sym (replayed (restore marks t) t false log (stands_flags marks.struck t log h))

pub tables_redone : (bound now m : ℕ) (marks : Marks) (log : List Logged) → AreFlagged marks.struck log
    → tables_of (followed_by bound (record { now = now; marks = marks; log = entries_in log }) (Redo m))
    ≡ tables_by_reply (reply_to_redo (last_of marks.undone)) log (tables_of (record { now = now; marks = marks; log = entries_in log }))
tables_redone bound now m marks log h = redone marks log _ (last_of marks.undone) h (λ k. refl)

-- ---- by a ticket

undone_of : (marks : Marks) (log : List Logged) (e : Entry) (there : Bool) (other : Option ℕ) (t : ℕ) → AreFlagged marks.struck log → ((k : Marks) → stands k e ≡ false)
    → tables_by (filter (stands (option_map_or (strike marks) (unless_buried there other t) marks)) (entries_in log ++ e ∷ []))
    ≡ tables_by_reply (reply_to_undo_of there other t) log (tables_by (filter (stands marks) (entries_in log)))
undone_of marks log e true None t h gone = undone marks log e (Some t) h gone
undone_of marks log e true (Some other) t h gone = left_out marks (entries_in log) e (gone marks)
undone_of marks log e false other t h gone = left_out marks (entries_in log) e (gone marks)

pub tables_undone_of : (bound now m t : ℕ) (marks : Marks) (log : List Logged) → AreFlagged marks.struck log
    → let past : Past = record { now = now; marks = marks; log = entries_in log } in
    tables_of (followed_by bound past (UndoOf m t)) ≡ tables_by_reply (reply_to_undo_of (is_among marks.done t) (over (commands_of past) t) t) log (tables_of past)
tables_undone_of bound now m t marks log h = undone_of marks log _ (is_among marks.done t) (over (commands_of (record { now = now; marks = marks; log = entries_in log })) t) t h (λ k. refl)

redone_of : (marks : Marks) (log : List Logged) (e : Entry) (there : Bool) (other : Option ℕ) (t : ℕ) → AreFlagged marks.struck log → ((k : Marks) → stands k e ≡ false)
    → tables_by (filter (stands (option_map_or (restore marks) (unless_buried there other t) marks)) (entries_in log ++ e ∷ []))
    ≡ tables_by_reply (reply_to_redo_of there other t) log (tables_by (filter (stands marks) (entries_in log)))
redone_of marks log e true None t h gone = redone marks log e (Some t) h gone
redone_of marks log e true (Some other) t h gone = left_out marks (entries_in log) e (gone marks)
redone_of marks log e false other t h gone = left_out marks (entries_in log) e (gone marks)

pub tables_redone_of : (bound now m t : ℕ) (marks : Marks) (log : List Logged) → AreFlagged marks.struck log
    → let past : Past = record { now = now; marks = marks; log = entries_in log } in
    tables_of (followed_by bound past (RedoOf m t)) ≡ tables_by_reply (reply_to_redo_of (is_among marks.undone t) (under (commands_of past) t) t) log (tables_of past)
tables_redone_of bound now m t marks log h = redone_of marks log _ (is_among marks.undone t) (under (commands_of (record { now = now; marks = marks; log = entries_in log })) t) t h (λ k. refl)
