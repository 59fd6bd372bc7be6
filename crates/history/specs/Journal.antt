-- The commands that the journal holds: those that can be undone or redone.
use Rattle.std.specs.Prelude.{◌≡◌, ℕ, ◌==◌, ◌&&◌, nat_lt, Bool, true, false, Option, Some, None, List, [], ◌∷◌, map, filter, not, filter_map, slice_get, if◌then◌else◌}
use Rattle.std.specs.List.{list_any}
use Rattle.std.specs.Option.{option_map}
use Rattle.history.specs.declared.event.Command.{Command}
use Rattle.history.specs.declared.event.Command.TheVariants.{SetZone, DropZone, AddRecord, DropName, SetStub, DropStub}
use Rattle.history.specs.declared.event.Event.{Event}
use Rattle.history.specs.declared.event.Event.TheVariants.{Do}
use Rattle.history.specs.declared.event.BuriedCommand.{BuriedCommand}
use Rattle.history.specs.declared.event.Journalled.{Journalled}
use Rattle.history.specs.Marks.{Marks, last_of}
use Rattle.history.specs.Past.{Past}

-- whether a ticket is one of these
abbrev pub is_among : List ℕ → ℕ → Bool
is_among tickets ticket = list_any (λ t. t == ticket) tickets

-- whether the command of a ticket is done, if it can be undone or redone
abbrev pub held_as : Marks → ℕ → Option Bool
held_as marks ticket = if is_among marks.done ticket then Some true else if is_among marks.undone ticket then Some false else None

-- the command of a ticket, if the journal holds it
abbrev pub held_with : Marks → ℕ → Command → Option Journalled
held_with marks ticket command = option_map (λ done. record { ticket = ticket; done = done; command = command }) (held_as marks ticket)

-- what the journal holds of an event that took this ticket
abbrev pub journalled_of : Marks → Event → Option ℕ → Option Journalled
journalled_of marks (Do moment command) (Some ticket) = held_with marks ticket command
journalled_of marks event ticket = None

-- the commands that can be undone or redone, the oldest first
abbrev pub commands_of : Past → List Journalled
commands_of past = filter_map (λ entry. journalled_of past.marks entry.event entry.ticket) past.log

-- the tickets of these commands, in their order
abbrev pub tickets_of : List Journalled → List ℕ
tickets_of commands = map (λ command. command.ticket) commands

-- the tickets of the commands of the journal that are done
abbrev pub tickets_done : Past → List ℕ
tickets_done past = tickets_of (filter (λ command. command.done) (commands_of past))

-- the tickets of the commands of the journal that are undone
abbrev pub tickets_undone : Past → List ℕ
tickets_undone past = tickets_of (filter (λ command. not command.done) (commands_of past))

-- the command of a ticket, if the journal holds it
abbrev pub command_at : List Journalled → ℕ → Option Journalled
command_at [] ticket = None
command_at (held ∷ commands) ticket = if held.ticket == ticket then Some held else command_at commands ticket

-- the command of a ticket, if there is a ticket
abbrev pub command_of : List Journalled → Option ℕ → Option Journalled
command_of commands None = None
command_of commands (Some ticket) = command_at commands ticket

-- the command that an undo would take back
abbrev pub next_undo : Marks → List Journalled → Option Journalled
next_undo marks commands = command_of commands (last_of marks.done)

-- ---- what is in the way of an undo or a redo of a ticket

-- the number of the table that a command changes: 1 is that of local zones and records, 2 that of stubs; a flush changes none
abbrev pub table_of : Command → Option ℕ
table_of (SetZone name kind) = Some 1
table_of (DropZone name) = Some 1
table_of (AddRecord new) = Some 1
table_of (DropName name) = Some 1
table_of (SetStub new) = Some 2
table_of (DropStub name) = Some 2
table_of command = None

-- whether two commands change one table
abbrev pub is_one_table : Option ℕ → Option ℕ → Bool
is_one_table (Some a) (Some b) = a == b
is_one_table _ _ = false

-- the table that the command of a ticket changes
abbrev pub table_at : List Journalled → ℕ → Option ℕ
table_at [] ticket = None
table_at (held ∷ commands) ticket = if held.ticket == ticket then table_of held.command else table_at commands ticket

-- whether a command of this table is done and has a later ticket
abbrev pub lies_on : ℕ → Option ℕ → Journalled → Bool
lies_on ticket table held = held.done && (nat_lt ticket held.ticket && is_one_table table (table_of held.command))

-- whether a command of this table is undone and has an earlier ticket
abbrev pub lies_under : ℕ → Option ℕ → Journalled → Bool
lies_under ticket table held = not held.done && (nat_lt held.ticket ticket && is_one_table table (table_of held.command))

-- the greatest later ticket of its table that is done: that command must be undone first
abbrev pub over : List Journalled → ℕ → Option ℕ
over commands ticket = last_of (tickets_of (filter (lies_on ticket (table_at commands ticket)) commands))

-- the least earlier ticket of its table that is undone: that command must be redone first
abbrev pub under : List Journalled → ℕ → Option ℕ
under commands ticket = slice_get (tickets_of (filter (lies_under ticket (table_at commands ticket)) commands)) 0

-- the ticket of the command that must be undone before a done command, or redone before an undone one
abbrev pub over_or_under : List Journalled → Journalled → Option ℕ
over_or_under commands held = if held.done then over commands held.ticket else under commands held.ticket

-- a command that another must be undone, or redone, before
abbrev pub buried_one : List Journalled → Journalled → Option BuriedCommand
buried_one commands held = option_map (λ by. record { ticket = held.ticket; by = by }) (over_or_under commands held)

-- these commands, the oldest first
abbrev pub buried_in : List Journalled → List BuriedCommand
buried_in commands = filter_map (buried_one commands) commands

-- Of the commands of the journal, a ticket is undone if the marks say so.
abbrev pub IsUndoneByMarks : Past → ℕ → Type 0
IsUndoneByMarks past ticket = is_among (tickets_undone past) ticket ≡ is_among past.marks.undone ticket
