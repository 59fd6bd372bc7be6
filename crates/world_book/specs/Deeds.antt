-- The deeds of a log: what came, what was forgotten, and what was made. And what a log shows by a choice of its commands.
use Rattle.std.specs.Prelude.{ℕ, Bool, Option, Some, None, List, map, filter_map}
use Rattle.change_law.specs.Face.{Face}
use Rattle.world_book.specs.Course.{Deed, Came, Forgot, Made}
use Rattle.history.specs.declared.event.Command.{Command}
use Rattle.history.specs.declared.event.Event.{Event}
use Rattle.history.specs.declared.event.Event.TheVariants.{Admit, Forget, Do}
use Rattle.history.specs.declared.event.Entry.{Entry}
use Rattle.dns_text.specs.declared.record.Question.{Question}
use Rattle.ranked.specs.declared.cell.Shown.{Shown}
use Rattle.ranked.specs.declared.find.Find.{Find}
use Rattle.ranked.specs.Cell.{shown_at}
use Rattle.local_zone.specs.Answer.{local_of}
use Rattle.history.specs.declared.event.Seen.{Seen}
use Rattle.history.specs.declared.tables.Tables.{Tables}
use Rattle.history.specs.Event.{covers}
use Rattle.history.specs.Changes.{no_tables, tables_by, after_command_on}
use Rattle.history.specs.Cells.{cell_by}
use Rattle.history.specs.Reply.{seen_by, seen_first}
use Rattle.history.specs.History.{standing_with}

-- A find came; a name was forgotten; a command that took a ticket was made; nothing else does anything.
abbrev pub deed_of : Event → ℕ → Option ℕ → Option (Deed Tables)
deed_of (Admit given find) moment ticket = Some (Came find moment)
deed_of (Forget given owner) moment ticket = Some (Forgot owner)
deed_of (Do given command) moment (Some ticket) = Some (Made ticket (after_command_on command) (covers command))
deed_of event moment ticket = None

abbrev pub deeds_of : List Entry → List (Deed Tables)
deeds_of log = filter_map (λ entry. deed_of entry.event entry.moment entry.ticket) log

-- a command that took a ticket
abbrev pub given_of : Event → Option ℕ → Option (ℕ × Command)
given_of (Do given command) (Some ticket) = Some (ticket, command)
given_of event ticket = None

-- the commands that took a ticket, in order
abbrev pub given_in : List Entry → List (ℕ × Command)
given_in log = filter_map (λ entry. given_of entry.event entry.ticket) log

abbrev pub given_tickets : List Entry → List ℕ
given_tickets log = map (λ given. given.0) (given_in log)

-- what a face shows of a question at a moment
abbrev pub shown_in : {T : Type 0} → Face T → Question → ℕ → Option (Shown Find)
shown_in face question moment = shown_at (face.cell question) moment

-- the answer to a question at a moment, by a face
abbrev pub answer_in : Face Tables → Question → ℕ → Seen
answer_in face question moment = seen_first (local_of face.tables.local question) (seen_by (shown_at (face.cell question) moment))

abbrev pub empty_face : Face Tables
empty_face = record { tables = no_tables; cell = λ q. None }

-- what is in force of a log by a choice, from nothing
abbrev pub face_of : (ℕ → Bool) → List Entry → Face Tables
face_of chosen log = record { tables = tables_by (standing_with chosen log); cell = λ q. cell_by q (standing_with chosen log) }
