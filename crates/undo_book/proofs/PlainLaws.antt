-- What a log with flags comes to: the flags tell what is struck, and follow the replies.
use Rattle.std.proofs.Common.{◌≡◌, ℕ, ◌+◌, Bool, true, false, cond, Option, Some, None, List, [], ◌∷◌, ◌++◌, length, length-append, map, max, refl, sym, ◌∙◌, ap, inl, inr, arith}
use Rattle.std.specs.Prelude.{fold, not, ◌==◌}
use Rattle.std.specs.List.{list_any}
use Rattle.std.specs.Option.{option_map_or}
use Rattle.std.proofs.lemmas.Bool.{cases_Bool, eqb-true}
use Rattle.std.proofs.lemmas.Bool.Decides.{nat_tests}
use Rattle.std.proofs.lemmas.Map.Views.{any-filter_same}
use Rattle.dns_text.specs.declared.record.Question.{Question}
use Rattle.ranked.specs.declared.find.Find.{Find}
use Rattle.ranked.specs.declared.find.Scope.{Scope}
use Rattle.ranked.specs.declared.find.Scope.TheVariants.{One, Whole}
use Rattle.ranked.specs.declared.cell.Admitted.{Admitted}
use Rattle.ranked.specs.Cell.{turns_away}
use Rattle.ranked.specs.Find.{admission_of}
use Rattle.dns_name.specs.ListLaws.{all_push}
use Rattle.history.specs.declared.event.Event.{Event}
use Rattle.history.specs.declared.event.Event.TheVariants.{Admit, Look, Sweep, Forget, Do, Undo, Redo, UndoOf, RedoOf}
use Rattle.history.specs.declared.event.Command.{Command}
use Rattle.history.specs.declared.event.Entry.{Entry}
use Rattle.history.specs.declared.event.Reason.{Reason}
use Rattle.history.specs.declared.event.Settings.{Settings}
use Rattle.history.specs.declared.event.Reply.{Reply}
use Rattle.history.specs.declared.event.Reply.TheVariants.{Taken, Outranked, Undone, Redone}
use Rattle.undo_book.specs.declared.log.Logged.{Logged}
use Rattle.history.specs.Marks.{Marks, last_of, without, strike, restore}
use Rattle.history.specs.Tickets.{InOne}
use Rattle.history.specs.Journal.{commands_of, is_among, over, under}
use Rattle.history.specs.History.{Past, marks_after, ticket_for, ticket_moved, ticket_unless, reason_of, standing_with, stands_by, is_unstruck, stands, unless_buried}
use Rattle.history.specs.Cells.{cell_of, cell_after}
use Rattle.history.specs.Reply.{reply_of, reply_to_admission, reply_to_command, reply_to_redo, reply_to_redo_of, reply_to_undo, reply_to_undo_of, ticket_taken}
use Rattle.undo_book.specs.Plain.{marks_by, entries_in, has_taken, with_flag, flags_by, has_struck, IsFlagged, AreFlagged, cell_after_logged}
use Rattle.history.specs.TicketLaws.{struck_now, struck_other, not_struck}

-- ---- a replay by the flags

pub flag_tells : (marks : Marks) (event : Event) (ticket : Option ℕ) (flag : Bool) → flag ≡ has_struck marks.struck ticket → stands_by (λ t. not flag) event ticket ≡ stands_by (is_unstruck marks) event ticket
flag_tells marks (Admit m f) ticket flag is = refl
flag_tells marks (Look m a) ticket flag is = refl
flag_tells marks (Sweep m) ticket flag is = refl
flag_tells marks (Forget m n) ticket flag is = refl
flag_tells marks (Do m c) None flag is = refl
flag_tells marks (Do m c) (Some ticket) flag is = ap not is
flag_tells marks (Undo m) ticket flag is = refl
flag_tells marks (Redo m) ticket flag is = refl
flag_tells marks (UndoOf m named) ticket flag is = refl
flag_tells marks (RedoOf m named) ticket flag is = refl

pub cell_by_flags : (question : Question) (marks : Marks) (log : List Logged) (cell : Option (Admitted Find)) → AreFlagged marks.struck log
    → fold (cell_after_logged question) cell log ≡ fold (cell_after question) cell (standing_with (is_unstruck marks) (entries_in log))
cell_by_flags question marks [] cell h = refl
cell_by_flags question marks (l ∷ log) cell h =
    let same : stands_by (λ t. not l.struck) l.entry.event l.entry.ticket ≡ stands marks l.entry = flag_tells marks l.entry.event l.entry.ticket l.struck h.0 in
    elim (cases_Bool (stands marks l.entry)) [
      | inl standing ↦ rw (same, standing) (cell_by_flags question marks log (cell_after question cell l.entry) h.1)
      | inr struck ↦ rw (same, struck) (cell_by_flags question marks log cell h.1)
    ]

-- ---- what a reply tells of the marks

by_fate : (bound : ℕ) (marks : Marks) (outranked : Bool) → marks_by bound marks (cond outranked Outranked Taken) ≡ marks
by_fate bound marks true = refl
by_fate bound marks false = refl

by_admission : (bound : ℕ) (past : Past) (find : Find) (m : ℕ) (scope : Scope) → marks_by bound past.marks (reply_to_admission past find m scope) ≡ past.marks
by_admission bound past find m (One kind) =
    by_fate bound past.marks (turns_away (cell_of past (record { owner = find.owner; kind = kind })) (admission_of find find (max past.now m)))
by_admission bound past find m Whole = refl

by_command : (bound : ℕ) (marks : Marks) (m : ℕ) (c : Command) (o : Option Reason) → marks_after bound marks (Do m c) (ticket_unless marks o) ≡ marks_by bound marks (reply_to_command marks o)
by_command bound marks m c None = refl
by_command bound marks m c (Some reason) = refl

by_undo : (bound : ℕ) (marks : Marks) (o : Option ℕ) → option_map_or (strike marks) o marks ≡ marks_by bound marks (reply_to_undo o)
by_undo bound marks None = refl
by_undo bound marks (Some ticket) = refl

by_redo : (bound : ℕ) (marks : Marks) (o : Option ℕ) → option_map_or (restore marks) o marks ≡ marks_by bound marks (reply_to_redo o)
by_redo bound marks None = refl
by_redo bound marks (Some ticket) = refl

by_undo_of : (bound : ℕ) (marks : Marks) (there : Bool) (other : Option ℕ) (t : ℕ) → option_map_or (strike marks) (unless_buried there other t) marks ≡ marks_by bound marks (reply_to_undo_of there other t)
by_undo_of bound marks true None t = refl
by_undo_of bound marks true (Some other) t = refl
by_undo_of bound marks false other t = refl

by_redo_of : (bound : ℕ) (marks : Marks) (there : Bool) (other : Option ℕ) (t : ℕ) → option_map_or (restore marks) (unless_buried there other t) marks ≡ marks_by bound marks (reply_to_redo_of there other t)
by_redo_of bound marks true None t = refl
by_redo_of bound marks true (Some other) t = refl
by_redo_of bound marks false other t = refl

pub marks_by_reply : (settings : Settings) (past : Past) (event : Event) → marks_by settings.journal past.marks (reply_of settings past event) ≡ marks_after settings.journal past.marks event (ticket_moved past event)
marks_by_reply settings past (Admit m f) = by_admission settings.journal past f m f.scope
marks_by_reply settings past (Look m a) = refl
marks_by_reply settings past (Sweep m) = refl
marks_by_reply settings past (Forget m n) = refl
marks_by_reply settings past (Do m c) = sym (by_command settings.journal past.marks m c (reason_of past c))
marks_by_reply settings past (Undo m) = sym (by_undo settings.journal past.marks (last_of past.marks.done))
marks_by_reply settings past (Redo m) = sym (by_redo settings.journal past.marks (last_of past.marks.undone))
marks_by_reply settings past (UndoOf m t) = sym (by_undo_of settings.journal past.marks (is_among past.marks.done t) (over (commands_of past) t) t)
marks_by_reply settings past (RedoOf m t) = sym (by_redo_of settings.journal past.marks (is_among past.marks.undone t) (under (commands_of past) t) t)

-- ---- what a reply tells of the ticket

ticket_by_fate : (outranked : Bool) → ticket_taken (cond outranked Outranked Taken) ≡ None
ticket_by_fate true = refl
ticket_by_fate false = refl

ticket_by_admission : (past : Past) (find : Find) (m : ℕ) (scope : Scope) → ticket_taken (reply_to_admission past find m scope) ≡ None
ticket_by_admission past find m (One kind) =
    ticket_by_fate (turns_away (cell_of past (record { owner = find.owner; kind = kind })) (admission_of find find (max past.now m)))
ticket_by_admission past find m Whole = refl

ticket_by_command : (marks : Marks) (o : Option Reason) → ticket_taken (reply_to_command marks o) ≡ ticket_unless marks o
ticket_by_command marks None = refl
ticket_by_command marks (Some reason) = refl

ticket_by_undo : (o : Option ℕ) → ticket_taken (reply_to_undo o) ≡ None
ticket_by_undo None = refl
ticket_by_undo (Some ticket) = refl

ticket_by_redo : (o : Option ℕ) → ticket_taken (reply_to_redo o) ≡ None
ticket_by_redo None = refl
ticket_by_redo (Some ticket) = refl

ticket_by_undo_of : (there : Bool) (other : Option ℕ) (t : ℕ) → ticket_taken (reply_to_undo_of there other t) ≡ None
ticket_by_undo_of true None t = refl
ticket_by_undo_of true (Some other) t = refl
ticket_by_undo_of false other t = refl

ticket_by_redo_of : (there : Bool) (other : Option ℕ) (t : ℕ) → ticket_taken (reply_to_redo_of there other t) ≡ None
ticket_by_redo_of true None t = refl
ticket_by_redo_of true (Some other) t = refl
ticket_by_redo_of false other t = refl

pub ticket_by_reply : (settings : Settings) (past : Past) (event : Event) → ticket_taken (reply_of settings past event) ≡ ticket_for past event
ticket_by_reply settings past (Admit m f) = ticket_by_admission past f m f.scope
ticket_by_reply settings past (Look m a) = refl
ticket_by_reply settings past (Sweep m) = refl
ticket_by_reply settings past (Forget m n) = refl
ticket_by_reply settings past (Do m c) = ticket_by_command past.marks (reason_of past c)
ticket_by_reply settings past (Undo m) = ticket_by_undo (last_of past.marks.done)
ticket_by_reply settings past (Redo m) = ticket_by_redo (last_of past.marks.undone)
ticket_by_reply settings past (UndoOf m t) = ticket_by_undo_of (is_among past.marks.done t) (over (commands_of past) t) t
ticket_by_reply settings past (RedoOf m t) = ticket_by_redo_of (is_among past.marks.undone t) (under (commands_of past) t) t

-- ---- the entries stay, whatever their flags

pub entries_flagged : (ticket : ℕ) (flag : Bool) (log : List Logged) → entries_in (map (with_flag ticket flag) log) ≡ entries_in log
entries_flagged ticket flag [] = refl
entries_flagged ticket flag (l ∷ log) = ap (λ (es : List Entry). l.entry ∷ es) (entries_flagged ticket flag log)

entries_by : (reply : Reply) (log : List Logged) → entries_in (flags_by reply log) ≡ entries_in log
entries_by (Undone ticket) log = entries_flagged ticket true log
entries_by (Redone ticket) log = entries_flagged ticket false log
entries_by reply log = refl

pub entries_push : (log : List Logged) (l : Logged) → entries_in (log ++ l ∷ []) ≡ entries_in log ++ l.entry ∷ []
entries_push [] l = refl
entries_push (k ∷ log) l = ap (λ (es : List Entry). k.entry ∷ es) (entries_push log l)

pub entries_after : (reply : Reply) (log : List Logged) (l : Logged) → entries_in (flags_by reply (log ++ l ∷ [])) ≡ entries_in log ++ l.entry ∷ []
entries_after reply log l = entries_by reply (log ++ l ∷ []) ∙ entries_push log l

pub length_entries : (log : List Logged) → length (entries_in log) ≡ length log
length_entries [] = refl
length_entries (l ∷ log) = omega (arith, length_entries log)

pub length_after : (reply : Reply) (log : List Logged) (l : Logged) → length (flags_by reply (log ++ l ∷ [])) ≡ length log + 1
length_after reply log l =
    omega (arith, length_entries (flags_by reply (log ++ l ∷ [])), ap (λ (es : List Entry). length es) (entries_after reply log l), length-append (entries_in log) (l.entry ∷ []), length_entries log)

pub past_by_parts : (now now' : ℕ) (marks marks' : Marks) (log log' : List Entry) → now ≡ now' → marks ≡ marks' → log ≡ log'
    → (let before : Past = record { now = now; marks = marks; log = log } in before) ≡ record { now = now'; marks = marks'; log = log' }
past_by_parts now now' marks marks' log log' n m l = rw (n, m, l) refl

pub entry_by_parts : (event : Event) (moment moment' : ℕ) (ticket ticket' : Option ℕ) → moment ≡ moment' → ticket ≡ ticket'
    → (let before : Entry = record { event = event; moment = moment; ticket = ticket } in before) ≡ record { event = event; moment = moment'; ticket = ticket' }
entry_by_parts event moment moment' ticket ticket' m t = rw (m, t) refl

-- ---- the flags tell what is struck

one_struck : (struck : List ℕ) (x : ℕ) (ticket : Option ℕ) (flag : Bool) → flag ≡ has_struck struck ticket → cond (has_taken x ticket) true flag ≡ has_struck (struck ++ x ∷ []) ticket
one_struck struck x None flag is = is
one_struck struck x (Some t) flag is =
    elim (cases_Bool (t == x)) [
      | inl same ↦ rw same (sym (ap (λ (n : ℕ). list_any (λ s. s == t) (struck ++ n ∷ [])) (sym (eqb-true t x same)) ∙ struck_now struck t))
      | inr apart ↦ let other : (x == t) ≡ false = grind (arith, nat_tests) in rw apart (is ∙ sym (struck_other struck x t other))
    ]

pub struck_flags : (struck : List ℕ) (x : ℕ) (log : List Logged) → AreFlagged struck log → AreFlagged (struck ++ x ∷ []) (map (with_flag x true) log)
struck_flags struck x [] h = tt
struck_flags struck x (l ∷ log) h = (one_struck struck x l.entry.ticket l.struck h.0, struck_flags struck x log h.1)

one_stands : (struck : List ℕ) (x : ℕ) (ticket : Option ℕ) (flag : Bool) → flag ≡ has_struck struck ticket → cond (has_taken x ticket) false flag ≡ has_struck (without x struck) ticket
one_stands struck x None flag is = is
one_stands struck x (Some t) flag is =
    elim (cases_Bool (t == x)) [
      | inl same ↦
          let gone : list_any (λ s. s == x) (without x struck) ≡ false = any-filter_same (λ s. s == x) (λ s. not (s == x)) false (λ k here. ap not here) struck in
          rw same (sym (ap (λ (n : ℕ). list_any (λ s. s == n) (without x struck)) (eqb-true t x same) ∙ gone))
      | inr apart ↦
          let stays : list_any (λ s. s == t) (without x struck) ≡ list_any (λ s. s == t) struck = any-filter_same (λ s. s == t) (λ s. not (s == x)) true (λ k here. ap not (ap (λ (n : ℕ). n == x) (eqb-true k t here) ∙ apart)) struck in
          rw apart (is ∙ sym stays)
    ]

pub stands_flags : (struck : List ℕ) (x : ℕ) (log : List Logged) → AreFlagged struck log → AreFlagged (without x struck) (map (with_flag x false) log)
stands_flags struck x [] h = tt
stands_flags struck x (l ∷ log) h = (one_stands struck x l.entry.ticket l.struck h.0, stands_flags struck x log h.1)

flags_by_reply : (bound : ℕ) (marks : Marks) (reply : Reply) (log : List Logged) → AreFlagged marks.struck log → AreFlagged (marks_by bound marks reply).struck (flags_by reply log)
flags_by_reply bound marks (Undone ticket) log h = struck_flags marks.struck ticket log h
flags_by_reply bound marks (Redone ticket) log h = stands_flags marks.struck ticket log h
flags_by_reply bound marks reply log h = h

pub new_by_reason : (marks : Marks) (o : Option Reason) → ((t : ℕ) → InOne marks t) → has_struck marks.struck (ticket_unless marks o) ≡ false
new_by_reason marks None h =
    let none = (h (marks.tickets + 1)).given (omega arith) in
    not_struck (marks.tickets + 1) marks.struck (omega arith)
new_by_reason marks (Some reason) h = refl

-- A ticket that is taken is not struck yet.
new_ticket : (past : Past) (event : Event) → ((t : ℕ) → InOne past.marks t) → has_struck past.marks.struck (ticket_for past event) ≡ false
new_ticket past (Admit m f) h = refl
new_ticket past (Look m a) h = refl
new_ticket past (Sweep m) h = refl
new_ticket past (Forget m n) h = refl
new_ticket past (Do m c) h = new_by_reason past.marks (reason_of past c) h
new_ticket past (Undo m) h = refl
new_ticket past (Redo m) h = refl
new_ticket past (UndoOf m named) h = refl
new_ticket past (RedoOf m named) h = refl

pub flags_after : (settings : Settings) (past : Past) (event : Event) (log : List Logged) (l : Logged) → ((t : ℕ) → InOne past.marks t) → AreFlagged past.marks.struck log → l.struck ≡ false → l.entry.ticket ≡ ticket_for past event
    → AreFlagged (marks_by settings.journal past.marks (reply_of settings past event)).struck (flags_by (reply_of settings past event) (log ++ l ∷ []))
flags_after settings past event log l h flags clear ticket =
    flags_by_reply settings.journal past.marks (reply_of settings past event) (log ++ l ∷ [])
    (all_push (IsFlagged past.marks.struck) log l flags (clear ∙ sym (ap (has_struck past.marks.struck) ticket ∙ new_ticket past event h)))
