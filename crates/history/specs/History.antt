-- The replay of a list of events: its greatest moment, its marks, and the entries that are in force.
use Rattle.std.specs.Prelude.{ℕ, ◌+◌, max, Bool, true, false, not, Option, Some, None, List, [], ◌∷◌, ◌++◌, fold, filter}
use Rattle.std.specs.Option.{option_map_or}
use Rattle.history.specs.declared.event.Event.{Event}
use Rattle.history.specs.declared.event.Event.TheVariants.{Admit, Forget, Do, Undo, Redo, UndoOf, RedoOf}
use Rattle.history.specs.declared.event.Command.{Command}
use Rattle.history.specs.declared.event.Reason.{Reason}
use Rattle.history.specs.declared.event.Entry.{Entry}
use Rattle.stub_table.specs.Stubs.{Stubs}
use Rattle.history.specs.declared.tables.Tables.{Tables}
use Rattle.history.specs.Event.{moment_of}
use Rattle.history.specs.Changes.{tables_by, reason_on}
pub use Rattle.history.specs.Past.{Past, nothing}
use Rattle.history.specs.Journal.{commands_of, is_among, over, under}
use Rattle.history.specs.Marks.{Marks, is_struck, after_command, after_undo, after_redo, strike, restore}

-- Admissions and forgets are in force, and so are the accepted commands that are chosen, by their tickets.
abbrev pub stands_by : (ℕ → Bool) → Event → Option ℕ → Bool
stands_by chosen (Admit moment find) ticket = true
stands_by chosen (Forget moment owner) ticket = true
stands_by chosen (Do moment command) (Some ticket) = chosen ticket
stands_by chosen event ticket = false

-- the entries that are in force if these tickets are chosen
abbrev pub standing_with : (ℕ → Bool) → List Entry → List Entry
standing_with chosen log = filter (λ entry. stands_by chosen entry.event entry.ticket) log

-- what is not struck
abbrev pub is_unstruck : Marks → ℕ → Bool
is_unstruck marks ticket = not (is_struck marks ticket)

-- whether an entry is in force
abbrev pub stands : Marks → Entry → Bool
stands marks entry = stands_by (is_unstruck marks) entry.event entry.ticket

-- what is in force: the list with the undone commands struck out
abbrev pub standing_of : Past → List Entry
standing_of past = standing_with (is_unstruck past.marks) past.log

-- local zones, records and stubs, by what is in force
abbrev pub tables_of : Past → Tables
tables_of past = tables_by (standing_of past)

-- stubs, by what is in force
abbrev pub stubs_of : Past → Stubs
stubs_of past = (tables_of past).stubs

-- why a command is refused, by what is in force
abbrev pub reason_of : Past → Command → Option Reason
reason_of past command = reason_on (tables_of past) command

-- An accepted command takes the next ticket.
abbrev pub ticket_unless : Marks → Option Reason → Option ℕ
ticket_unless marks None = Some (marks.tickets + 1)
ticket_unless marks (Some reason) = None

-- the ticket that an event takes: commands alone take one
abbrev pub ticket_for : Past → Event → Option ℕ
ticket_for past (Do moment command) = ticket_unless past.marks (reason_of past command)
ticket_for past event = None

-- a ticket that is there, unless another of its table must be moved first
abbrev pub unless_buried : Bool → Option ℕ → ℕ → Option ℕ
unless_buried true None ticket = Some ticket
unless_buried true (Some other) ticket = None
unless_buried false other ticket = None

-- The ticket that an event takes, or that an undo or a redo of a ticket moves.
abbrev pub ticket_moved : Past → Event → Option ℕ
ticket_moved past (UndoOf moment ticket) = unless_buried (is_among past.marks.done ticket) (over (commands_of past) ticket) ticket
ticket_moved past (RedoOf moment ticket) = unless_buried (is_among past.marks.undone ticket) (under (commands_of past) ticket) ticket
ticket_moved past event = ticket_for past event

-- the marks after an event that took or moved this ticket
abbrev pub marks_after : ℕ → Marks → Event → Option ℕ → Marks
marks_after bound marks (Do moment command) (Some ticket) = after_command bound marks
marks_after bound marks (Do moment command) None = marks
marks_after bound marks (Undo moment) ticket = after_undo marks
marks_after bound marks (Redo moment) ticket = after_redo marks
marks_after bound marks (UndoOf moment named) ticket = option_map_or (strike marks) ticket marks
marks_after bound marks (RedoOf moment named) ticket = option_map_or (restore marks) ticket marks
marks_after bound marks event ticket = marks

-- one event more, if the newest `bound` commands can be undone
abbrev pub followed_by : ℕ → Past → Event → Past
followed_by bound past event =
    let now = max past.now (moment_of event) in
    let ticket = ticket_for past event in
    record {
      now = now;
      marks = marks_after bound past.marks event (ticket_moved past event);
      log = past.log ++ record { event = event; moment = now; ticket = ticket } ∷ [];
    }

-- what a history comes to
abbrev pub past_of : ℕ → List Event → Past
past_of bound history = fold (followed_by bound) nothing history
