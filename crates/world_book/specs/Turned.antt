-- An undo and a redo, by the standing that a command is turned from: their events, what they reach and move in a past, and their replies.
use Rattle.std.specs.Prelude.{ℕ, Bool, true, false, Option, Some, None, List}
use Rattle.change_law.specs.declared.kept.Standing.{Standing}
use Rattle.change_law.specs.declared.kept.Standing.TheVariants.{Done}
use Rattle.undo_journal.specs.declared.outcome.Outcome.{Outcome}
use Rattle.undo_journal.specs.declared.outcome.Outcome.TheVariants as outcome
use Rattle.history.specs.declared.event.Event.{Event}
use Rattle.history.specs.declared.event.Event.TheVariants.{Undo, Redo, UndoOf, RedoOf}
use Rattle.history.specs.declared.event.Journalled.{Journalled}
use Rattle.history.specs.declared.event.Reply.{Reply}
use Rattle.history.specs.declared.event.Reply.TheVariants.{NotKept, Buried}
use Rattle.history.specs.Journal.{lies_on, lies_under, over, under}
use Rattle.history.specs.Marks.{Marks, restore, strike}
use Rattle.history.specs.Reply.{reply_to_redo, reply_to_undo}

-- the event at a moment: an undo, or a redo
abbrev pub turn_event : Standing → ℕ → Event
turn_event Done moment = Undo moment
turn_event _ moment = Redo moment

-- the event of a ticket
abbrev pub turn_of_event : Standing → ℕ → ℕ → Event
turn_of_event Done ticket moment = UndoOf moment ticket
turn_of_event _ ticket moment = RedoOf moment ticket

-- the tickets of the commands that can be turned
abbrev pub marks_from : Standing → Marks → List ℕ
marks_from Done marks = marks.done
marks_from _ marks = marks.undone

-- the marks after a turn
abbrev pub turn_marks : Standing → Marks → ℕ → Marks
turn_marks Done marks ticket = strike marks ticket
turn_marks _ marks ticket = restore marks ticket

-- whether a command of this table is in the way of the turn of a ticket
abbrev pub command_lies_in_way : Standing → ℕ → Option ℕ → Journalled → Bool
command_lies_in_way Done ticket table held = lies_on ticket table held
command_lies_in_way _ ticket table held = lies_under ticket table held

-- the ticket of the command that must be turned first
abbrev pub command_in_way : Standing → List Journalled → ℕ → Option ℕ
command_in_way Done commands ticket = over commands ticket
command_in_way _ commands ticket = under commands ticket

-- the reply to a turn
abbrev pub reply_to_turn : Standing → Option ℕ → Reply
reply_to_turn Done ticket = reply_to_undo ticket
reply_to_turn _ ticket = reply_to_redo ticket

-- the reply to the turn of a ticket, by whether its command can be turned and by the command in its way
abbrev pub reply_to_turn_of : Standing → Bool → Option ℕ → ℕ → Reply
reply_to_turn_of from false other ticket = NotKept
reply_to_turn_of from true (Some other) ticket = Buried other
reply_to_turn_of from true None ticket = reply_to_turn from (Some ticket)

-- the same, by what the turn did
abbrev pub turn_told : Standing → Outcome → ℕ → Reply
turn_told from outcome.Moved ticket = reply_to_turn from (Some ticket)
turn_told from outcome.NotKept ticket = NotKept
turn_told from (outcome.Buried other) ticket = Buried other
