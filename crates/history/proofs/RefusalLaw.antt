-- A refusal leaves the marks, and adds nothing that is in force.
use Rattle.std.proofs.Common.{◌≡◌, ℕ, Bool, true, false, cond, Option, Some, None, List, [], ◌∷◌, ◌++◌, max, refl, ap, ◌∙◌}
use Rattle.std.specs.Prelude.{if◌then◌else◌}
use Rattle.std.specs.Option.{option_map_or}
use Rattle.std.proofs.lemmas.Bool.{false≢true}
use Rattle.std.proofs.lemmas.List.{append-nil}
use Rattle.std.proofs.lemmas.List.Elements.{filter-append}
use Rattle.history.specs.declared.event.Command.{Command}
use Rattle.history.specs.declared.event.Entry.{Entry}
use Rattle.history.specs.declared.event.Event.{Event}
use Rattle.history.specs.declared.event.Event.TheVariants.{Admit, Look as LookEvent, Sweep, Forget, Do, Undo, Redo, UndoOf, RedoOf}
use Rattle.history.specs.declared.event.Reason.{Reason}
use Rattle.history.specs.declared.event.Reply.TheVariants.{Outranked, Taken}
use Rattle.history.specs.declared.event.Settings.{Settings}
use Rattle.history.specs.Changes.{tables_by}
use Rattle.history.specs.Event.{moment_of}
use Rattle.history.specs.History.{Past, followed_by, is_unstruck, marks_after, reason_of, standing_of, standing_with, stands_by, ticket_for, ticket_moved, ticket_unless, unless_buried}
use Rattle.history.specs.Journal.{commands_of, is_among, over, under}
use Rattle.history.specs.Marks.{Marks, last_of, restore, strike}
use Rattle.history.specs.Refusal.{SameButClock, is_refusal}
use Rattle.history.specs.Reply.{reply_of, reply_to_admission, reply_to_command, reply_to_redo, reply_to_redo_of, reply_to_undo, reply_to_undo_of}
use Rattle.ranked.specs.declared.find.Find.{Find}
use Rattle.ranked.specs.declared.find.Scope.{Scope}
use Rattle.ranked.specs.declared.find.Scope.TheVariants.{One, Whole}

undo_of_refused : (among : Bool) (other : Option ℕ) (ticket : ℕ) → is_refusal (reply_to_undo_of among other ticket) ≡ true → unless_buried among other ticket ≡ None
undo_of_refused false other ticket e = refl
undo_of_refused true (Some other) ticket e = refl
undo_of_refused true None ticket e = absurd (false≢true e)

redo_of_refused : (among : Bool) (other : Option ℕ) (ticket : ℕ) → is_refusal (reply_to_redo_of among other ticket) ≡ true → unless_buried among other ticket ≡ None
redo_of_refused false other ticket e = refl
redo_of_refused true (Some other) ticket e = refl
redo_of_refused true None ticket e = absurd (false≢true e)

none_turned : (b : Bool) → is_refusal (if b then Outranked else Taken) ≡ true → ⊥
none_turned true e = false≢true e
none_turned false e = false≢true e

module _ (bound : ℕ) (past : Past) where
  same_by : (event : Event) → marks_after bound past.marks event (ticket_moved past event) ≡ past.marks → ((chosen : ℕ → Bool) → stands_by chosen event (ticket_for past event) ≡ false) →
      SameButClock past (followed_by bound past event) event
  same_by event kept out =
      let entry : Entry = record { event = event; moment = max past.now (moment_of event); ticket = ticket_for past event } in
      let standing : standing_of (followed_by bound past event) ≡ standing_of past
      = ap (λ (m : Marks). standing_with (is_unstruck m) (past.log ++ entry ∷ [])) kept
      ∙ filter-append (λ (e : Entry). stands_by (is_unstruck past.marks) e.event e.ticket) past.log (entry ∷ [])
      ∙ ap (λ (b : Bool). standing_of past ++ cond b (entry ∷ []) []) (out (is_unstruck past.marks))
      ∙ append-nil (standing_of past) in
      record {
        standing = standing;
        tables = ap (λ (es : List Entry). (tables_by es).local) standing;
        stubs = ap (λ (es : List Entry). (tables_by es).stubs) standing;
        marks = kept;
        now = refl;
      }

  command_refused : (m : ℕ) (c : Command) (o : Option Reason) → reason_of past c ≡ o → is_refusal (reply_to_command past.marks o) ≡ true → SameButClock past (followed_by bound past (Do m c)) (Do m c)
  command_refused m c None is e = absurd (false≢true e)
  command_refused m c (Some r) is e =
      same_by (Do m c) (ap (λ (o : Option Reason). marks_after bound past.marks (Do m c) (ticket_unless past.marks o)) is) (λ chosen. ap (λ (o : Option Reason). stands_by chosen (Do m c) (ticket_unless past.marks o)) is)

  undo_refused : (m : ℕ) (o : Option ℕ) → last_of past.marks.done ≡ o → is_refusal (reply_to_undo o) ≡ true → SameButClock past (followed_by bound past (Undo m)) (Undo m)
  undo_refused m None is e = same_by (Undo m) (ap (λ (o : Option ℕ). option_map_or (strike past.marks) o past.marks) is) (λ chosen. refl)
  undo_refused m (Some t) is e = absurd (false≢true e)

  redo_refused : (m : ℕ) (o : Option ℕ) → last_of past.marks.undone ≡ o → is_refusal (reply_to_redo o) ≡ true → SameButClock past (followed_by bound past (Redo m)) (Redo m)
  redo_refused m None is e = same_by (Redo m) (ap (λ (o : Option ℕ). option_map_or (restore past.marks) o past.marks) is) (λ chosen. refl)
  redo_refused m (Some t) is e = absurd (false≢true e)

  find_refused : (find : Find) (m : ℕ) (s : Scope) → is_refusal (reply_to_admission past find m s) ≡ true → ⊥
  find_refused find m (One kind) e = none_turned _ e
  find_refused find m Whole e = false≢true e

pub refused : (settings : Settings) (past : Past) (event : Event) → is_refusal (reply_of settings past event) ≡ true → SameButClock past (followed_by settings.journal past event) event
refused settings past (Admit m find) e = absurd (find_refused settings.journal past find m find.scope e)
refused settings past (LookEvent m ask) e = absurd (false≢true e)
refused settings past (Sweep m) e = absurd (false≢true e)
refused settings past (Forget m owner) e = absurd (false≢true e)
refused settings past (Do m c) e = command_refused settings.journal past m c (reason_of past c) refl e
refused settings past (Undo m) e = undo_refused settings.journal past m (last_of past.marks.done) refl e
refused settings past (Redo m) e = redo_refused settings.journal past m (last_of past.marks.undone) refl e
refused settings past (UndoOf m t) e =
    same_by settings.journal past (UndoOf m t) (ap (λ (o : Option ℕ). option_map_or (strike past.marks) o past.marks) (undo_of_refused (is_among past.marks.done t) (over (commands_of past) t) t e)) (λ chosen. refl)
refused settings past (RedoOf m t) e =
    same_by settings.journal past (RedoOf m t) (ap (λ (o : Option ℕ). option_map_or (restore past.marks) o past.marks) (redo_of_refused (is_among past.marks.undone t) (under (commands_of past) t) t e)) (λ chosen. refl)
