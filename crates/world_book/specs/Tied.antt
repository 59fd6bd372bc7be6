-- What ties a world under its journal to a past.
use Rattle.std.specs.Prelude.{◌≡◌, ◌⊎◌, ℕ, ◌<◌, ◌≤◌, max, Bool, true, false, Option, Some, List, [], map, Result, IsOk}
use Rattle.std.specs.List.{AllByRecursion, Contains}
use Rattle.change_law.specs.declared.world.World.{Ghosts}
use Rattle.change_law.specs.Pairs.{AddsPairs}
use Rattle.undo_journal.specs.Journal.{Changes, done_of, told_of}
use Rattle.undo_journal.specs.Needs.{HaveNeeds, is_needy, needs_of}
use Rattle.world_book.specs.Course.{AreAscending, Stands}
use Rattle.history.specs.declared.event.Command.{Command}
use Rattle.history.specs.declared.event.Event.{Event}
use Rattle.history.specs.declared.event.Event.TheVariants.{Forget}
use Rattle.history.specs.declared.event.Reply.{Reply}
use Rattle.history.specs.declared.event.Settings.{Settings}
use Rattle.history.specs.declared.tables.Tables.{Tables}
use Rattle.history.specs.Answers.{SweepsAll}
use Rattle.history.specs.Event.{moment_of}
use Rattle.history.specs.Marks.{is_struck}
use Rattle.history.specs.History.{Past, followed_by}
use Rattle.history.specs.Oldest.{IsOldest}
use Rattle.history.specs.Reply.{reply_of}
use Rattle.world_book.specs.Deeds.{deeds_of, given_in, given_tickets, empty_face}
use Rattle.world_book.specs.Removals.{IsRemoval}
use Rattle.world_book.specs.Step.{ForgetsPairs}
use Rattle.world_book.specs.Versions.{table_of, IsFreeWhere}

-- The kept changes are commands of the past, each with its ticket.
pub record AreGiven {S : Type 0} (told : S → Command) (changes : Changes S) (past : Past) : Type 0 where
  pub ascending : AreAscending (given_tickets past.log)
  pub known : AllByRecursion (λ t. t ≤ past.marks.tickets) (given_tickets past.log)
  pub kept : AllByRecursion (λ given. Contains (given_in past.log) given) (told_of told changes.kept)

-- the tables of some commands, each with its ticket
abbrev pub tables_told : List (ℕ × Command) → List (ℕ × Option ℕ)
tables_told given = map (λ one. (one.0, table_of one.1)) given

-- A world under its journal is what a past comes to: its deeds, what can be undone and redone, the tickets, the commands and their tables.
pub record IsTied {W S : Type 0} (by : Ghosts W Tables S Command) (world : W) (changes : Changes S) (bound : ℕ) (past : Past) : Type 0 where
  pub cells : by.has_cells ≡ true
  pub stands : Stands by.has_cells by.table by.keeps by.face empty_face world changes past.now (deeds_of past.log) (is_struck past.marks)
  pub done : done_of changes ≡ past.marks.done
  pub undone : changes.undone ≡ past.marks.undone
  pub tickets : changes.tickets ≡ past.marks.tickets
  pub limit : changes.limit ≡ bound
  pub given : AreGiven by.told changes past
  pub tables : told_of by.table changes.kept ≡ tables_told (told_of by.told changes.kept)

-- The reply is what the history says, whichever the world and its journal come to. The clock is at the later of its last moment and the event's.
abbrev pub IsHistoryReply : {W S : Type 0} → Ghosts W Tables S Command → Settings → ℕ → Event → W → Changes S → Reply → Type 0
IsHistoryReply by settings clock event world changes reply =
    (bound : ℕ) (past : Past) → clock ≡ max past.now (moment_of event) → IsTied by world changes bound past → reply ≡ reply_of settings past event

-- Whatever history the world and its journal came to, they now come to it with the event. The clock is at the later of its last moment and the event's.
abbrev pub TakesIn : {W S : Type 0} → Ghosts W Tables S Command → ℕ → Event → W → Changes S → W → Changes S → Type 0
TakesIn by clock event world changes world' changes' =
    (bound : ℕ) (past : Past) → clock ≡ max past.now (moment_of event) → IsTied by world changes bound past → IsTied by world' changes' bound (followed_by bound past event)

-- At each moment of the event, with any settings, the reply is what the history says. The event is given by its moment.
abbrev pub RepliesAt : {W S : Type 0} → Ghosts W Tables S Command → ℕ → (ℕ → Event) → W → Changes S → Reply → Type 0
RepliesAt by clock event world changes reply = (settings : Settings) (moment : ℕ) → IsHistoryReply by settings clock (event moment) world changes reply

-- The same, wherever the clock is.
abbrev pub RepliesAlways : {W S : Type 0} → Ghosts W Tables S Command → (ℕ → Event) → W → Changes S → Reply → Type 0
RepliesAlways by event world changes reply =
    (settings : Settings) (clock moment : ℕ) → IsHistoryReply by settings clock (event moment) world changes reply

-- At each moment of the event, the world and its journal take it in. The event is given by its moment.
abbrev pub TakesInAt : {W S : Type 0} → Ghosts W Tables S Command → ℕ → (ℕ → Event) → W → Changes S → W → Changes S → Type 0
TakesInAt by clock event world changes world' changes' = (moment : ℕ) → TakesIn by clock (event moment) world changes world' changes'

-- The same, wherever the clock is.
abbrev pub TakesInAlways : {W S : Type 0} → Ghosts W Tables S Command → (ℕ → Event) → W → Changes S → W → Changes S → Type 0
TakesInAlways by event world changes world' changes' = (clock moment : ℕ) → TakesIn by clock (event moment) world changes world' changes'

-- Whatever history the world and its journal came to, they come to it still. The clock is at its last moment.
abbrev pub StaysTied : {W S : Type 0} → Ghosts W Tables S Command → ℕ → W → Changes S → W → Type 0
StaysTied by clock world changes world' =
    (bound : ℕ) (past : Past) → clock ≡ past.now → IsTied by world changes bound past → IsTied by world' changes bound past

-- A fault took nothing in: the world and its journal come to the same histories, no ticket was given out, as many cells are stored, no more pairs count, and the undos need what they did.
pub record TakesNothingIn {W S : Type 0} (by : Ghosts W Tables S Command) (world : W) (changes : Changes S) (world' : W) (changes' : Changes S) : Type 0 where
  pub tied : (bound : ℕ) (past : Past) → IsTied by world changes bound past → IsTied by world' changes' bound past
  pub tickets : changes'.tickets ≡ changes.tickets
  pub stored : by.stored world' ≡ by.stored world
  pub pairs : AddsPairs by.counts [] world world'
  pub needs : HaveNeeds by.needs_memory by.needs_memory_after changes changes'

-- whether the journal keeps a command of this ticket whose undo may need memory
abbrev pub undo_may_need : {W S : Type 0} → Ghosts W Tables S Command → Changes S → ℕ → Bool
undo_may_need by changes ticket = is_needy (needs_of by.needs_memory by.needs_memory_after changes.kept) ticket

-- Where the undo of a command may need memory after an event, it might before it, or the event is that command and removed something.
abbrev pub GainsNeeds : {W S : Type 0} → Ghosts W Tables S Command → Event → W → Changes S → Changes S → Type 0
GainsNeeds by event world changes changes' =
    (bound : ℕ) (past : Past) → IsTied by world changes bound past → (ticket : ℕ) → undo_may_need by changes' ticket ≡ true →
    (undo_may_need by changes ticket ≡ true) ⊎ IsRemoval past event ticket

-- An event that needs no memory, by what the undos of the kept commands need.
abbrev pub IsFreeBy : {W S : Type 0} → Ghosts W Tables S Command → Changes S → Past → Event → Type 0
IsFreeBy by changes past event = IsFreeWhere (λ ticket. undo_may_need by changes ticket ≡ false) past event

-- Whatever history the world and its journal came to, the event is answered if it needs no memory. The clock is at the later of its last moment and the event's.
abbrev pub IsTakenIfFree : {W S A E : Type 0} → Ghosts W Tables S Command → ℕ → Event → W → Changes S → Result A E → Type 0
IsTakenIfFree by clock event world changes result =
    (bound : ℕ) (past : Past) → clock ≡ max past.now (moment_of event) → IsTied by world changes bound past → IsFreeBy by changes past event → IsOk result

-- If an event forgets the name to forget first at its moment, fewer cells are stored after it, whatever history the world and its journal came to.
abbrev pub MakesRoom : {W S : Type 0} → Ghosts W Tables S Command → Event → W → Changes S → W → Type 0
MakesRoom by (Forget moment owner) world changes world' =
    (bound : ℕ) (past : Past) → IsTied by world changes bound past → IsOldest past (max past.now moment) (Some owner) → by.stored world' < by.stored world
MakesRoom by event world changes world' = Unit {0}

-- After a forget, no pair of its owner counts, and fewer cells are stored if it forgot the name to forget first. After a sweep, nothing is left to sweep at the clock.
abbrev pub Discards : {W S : Type 0} → Ghosts W Tables S Command → ℕ → Event → W → Changes S → W → Type 0
Discards by clock event world changes world' =
    ForgetsPairs by event world' × MakesRoom by event world changes world' × SweepsAll event (by.unswept world' clock)
