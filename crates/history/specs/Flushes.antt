-- The last command of a choice that empties a cell.
use Rattle.std.specs.Prelude.{◌≡◌, ℕ, Bool, false, IsTrue, ◌==◌, Option, Some, None, List, [], ◌∷◌, ◌++◌, if◌then◌else◌}
use Rattle.std.specs.Option.{option_or}
use Rattle.dns_text.specs.declared.record.Question.{Question}
use Rattle.history.specs.declared.event.Event.{Event}
use Rattle.history.specs.declared.event.Event.TheVariants.{Do}
use Rattle.history.specs.declared.event.Entry.{Entry}
use Rattle.history.specs.declared.event.Command.{Command}
use Rattle.history.specs.Event.{covers}
use Rattle.history.specs.History.{standing_with}
use Rattle.history.specs.Cells.{cell_by}

-- the ticket that an event took, if it gave a command that covers the question
abbrev pub ticket_covering : Question → Event → Option ℕ → Option ℕ
ticket_covering question (Do moment command) ticket = if covers command question then ticket else None
ticket_covering question event ticket = None

-- the ticket of the last of these entries whose command covers the question
abbrev pub last_covering : Question → List Entry → Option ℕ
last_covering question [] = None
last_covering question (entry ∷ entries) = option_or (last_covering question entries) (ticket_covering question entry.event entry.ticket)

-- the choice of this ticket alone, or of none
abbrev pub only : Option ℕ → ℕ → Bool
only None ticket = false
only (Some chosen) ticket = chosen == ticket

-- A cell that a flush covers depends only on what is in force after the flush.
abbrev pub ForgetsBefore : Question → Entry → Type 0
ForgetsBefore question flush = (before after : List Entry) (moment : ℕ) (command : Command) → flush.event ≡ Do moment command → IsTrue (covers command question) →
    cell_by question (before ++ flush ∷ after) ≡ cell_by question after

-- Whichever commands are chosen to be in force, a cell is the same if of them only the last flush that covers it is in force.
abbrev pub LastFlushDecides : Question → Type 0
LastFlushDecides question = (chosen : ℕ → Bool) (log : List Entry) →
    cell_by question (standing_with chosen log) ≡ cell_by question (standing_with (only (last_covering question (standing_with chosen log))) log)
