-- What is seen ahead of an event is what its reply shows.
use Rattle.std.proofs.Common.{ℕ, Bool, true, false, Option, Some, None, refl}
use Rattle.std.specs.Prelude.{if◌then◌else◌}
use Rattle.ranked.specs.declared.find.Find.{Find}
use Rattle.ranked.specs.declared.find.Scope.{Scope}
use Rattle.ranked.specs.declared.find.Scope.TheVariants.{One, Whole}
use Rattle.history.specs.declared.event.Event.{Event}
use Rattle.history.specs.declared.event.Event.TheVariants.{Admit, Look, Sweep, Forget, Do, Undo, Redo, UndoOf, RedoOf}
use Rattle.history.specs.declared.event.Reason.{Reason}
use Rattle.history.specs.declared.event.Reply.TheVariants.{Taken, Outranked}
use Rattle.history.specs.declared.event.Settings.{Settings}
use Rattle.history.specs.History.{Past, reason_of}
use Rattle.history.specs.Marks.{Marks, last_of}
use Rattle.history.specs.Journal.{commands_of, is_among, over, under}
use Rattle.history.specs.Reply.{reply_of, reply_to_admission, reply_to_command, reply_to_redo, reply_to_redo_of, reply_to_undo, reply_to_undo_of}
use Rattle.shared_book.specs.Ahead.{seen_ahead, ShowsNothing, IsEcho}

of_test : (b : Bool) → ShowsNothing (if b then Outranked else Taken)
of_test true = tt
of_test false = tt

of_admission : (past : Past) (find : Find) (moment : ℕ) (scope : Scope) → ShowsNothing (reply_to_admission past find moment scope)
of_admission past find moment (One kind) = of_test _
of_admission past find moment Whole = tt

of_command : (marks : Marks) (reason : Option Reason) → ShowsNothing (reply_to_command marks reason)
of_command marks None = tt
of_command marks (Some reason) = tt

of_undo : (ticket : Option ℕ) → ShowsNothing (reply_to_undo ticket)
of_undo None = tt
of_undo (Some ticket) = tt

of_redo : (ticket : Option ℕ) → ShowsNothing (reply_to_redo ticket)
of_redo None = tt
of_redo (Some ticket) = tt

of_undo_of : (there : Bool) (other : Option ℕ) (ticket : ℕ) → ShowsNothing (reply_to_undo_of there other ticket)
of_undo_of true None ticket = tt
of_undo_of true (Some other) ticket = tt
of_undo_of false other ticket = tt

of_redo_of : (there : Bool) (other : Option ℕ) (ticket : ℕ) → ShowsNothing (reply_to_redo_of there other ticket)
of_redo_of true None ticket = tt
of_redo_of true (Some other) ticket = tt
of_redo_of false other ticket = tt

pub echoes : (settings : Settings) (past : Past) (event : Event) → IsEcho (reply_of settings past event) (seen_ahead settings past event)
echoes settings past (Admit moment find) = of_admission past find moment find.scope
echoes settings past (Look moment ask) = refl
echoes settings past (Sweep moment) = tt
echoes settings past (Forget moment owner) = tt
echoes settings past (Do moment command) = of_command past.marks (reason_of past command)
echoes settings past (Undo moment) = of_undo (last_of past.marks.done)
echoes settings past (Redo moment) = of_redo (last_of past.marks.undone)
echoes settings past (UndoOf moment ticket) = of_undo_of (is_among past.marks.done ticket) (over (commands_of past) ticket) ticket
echoes settings past (RedoOf moment ticket) = of_redo_of (is_among past.marks.undone ticket) (under (commands_of past) ticket) ticket
