-- The admissions of a name that a plain book still counts.
use Rattle.std.specs.Prelude.{ℕ, ◌+◌, ◌&&◌, Bool, false, not, List, [], ◌∷◌, if◌then◌else◌}
use Rattle.std.specs.List.{list_any}
use Rattle.dns_name.specs.Labels.{Labels}
use Rattle.dns_name.specs.Order.{name_eq}
use Rattle.history.specs.declared.event.Event.{Event}
use Rattle.history.specs.declared.event.Event.TheVariants.{Admit}
use Rattle.history.specs.Counts.{events_in}
use Rattle.history.specs.Event.{forgets}
use Rattle.undo_book.specs.declared.log.Logged.{Logged}
use Rattle.undo_book.specs.Plain.{entries_in}

-- the events of a log with flags
abbrev pub events_of : List Logged → List Event
events_of log = events_in (entries_in log)

-- whether an event admits a find of this name
abbrev pub admits : Labels → Event → Bool
admits name (Admit moment find) = name_eq name find.owner
admits name event = false

-- how many admissions of a name no later forget of it follows
abbrev pub counted_at : Labels → List Event → ℕ
counted_at name [] = 0
counted_at name (event ∷ later) = (if admits name event && not (list_any (forgets name) later) then 1 else 0) + counted_at name later

-- the same after one event more: a forget of the name leaves none
abbrev pub counted_then : Labels → ℕ → Event → ℕ
counted_then name counted event = if forgets name event then 0 else counted + (if admits name event then 1 else 0)
