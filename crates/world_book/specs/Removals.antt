-- What a command removes, and the events that need no memory after a history.
use Rattle.std.specs.Prelude.{◌≡◌, ℕ, Bool, true, false, Some, List, ◌∷◌, ◌++◌}
use Rattle.std.specs.List.{list_any}
use Rattle.dns_name.specs.Order.{name_eq}
use Rattle.local_zone.specs.Change.{has_zone}
use Rattle.stub_table.specs.Change.{has_stub}
use Rattle.history.specs.declared.event.Command.{Command}
use Rattle.history.specs.declared.event.Command.TheVariants.{DropZone, DropName, DropStub}
use Rattle.history.specs.declared.event.Event.{Event}
use Rattle.history.specs.declared.event.Event.TheVariants.{Do}
use Rattle.history.specs.declared.tables.Tables.{Tables}
use Rattle.history.specs.History.{Past, past_of, tables_of, ticket_for}
use Rattle.world_book.specs.Versions.{IsFreeWhere}

-- Whether a command takes a zone, a record or a stub out of these tables. One that adds to them, or that gives what is there another value, takes nothing out.
abbrev pub removes : Command → Tables → Bool
removes (DropZone name) t = has_zone t.local.zones name
removes (DropName name) t = list_any (λ r. name_eq r.owner name) t.local.records
removes (DropStub name) t = has_stub t.stubs name
removes command t = false

-- The event is a command that takes this ticket and removes something from the tables in force.
abbrev pub IsRemoval : Past → Event → ℕ → Type 0
IsRemoval past (Do moment command) ticket = (ticket_for past (Do moment command) ≡ Some ticket) × (removes command (tables_of past) ≡ true)
IsRemoval past event ticket = ⊥

-- The command that took this ticket removed something when it was given.
pub record HasRemoved (bound : ℕ) (history : List Event) (ticket : ℕ) : Type 0 where
  pub before : List Event
  pub event : Event
  pub after : List Event
  pub split : history ≡ before ++ event ∷ after
  pub removal : IsRemoval (past_of bound before) event ticket

-- An event that needs no memory after a history. Of the undos it is that of a flush, and that of a command that removed nothing when it was given.
abbrev pub IsFreeAfter : ℕ → List Event → Event → Type 0
IsFreeAfter bound history event = IsFreeWhere (λ ticket. HasRemoved bound history ticket → ⊥) (past_of bound history) event
