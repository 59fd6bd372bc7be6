-- The commands that a journal keeps.
use Rattle.std.specs.Prelude.{List, map}
use Rattle.change_law.specs.declared.kept.KeptChange.{KeptChange}
use Rattle.change_law.specs.Choice.{is_done}
use Rattle.history.specs.declared.event.Command.{Command}
use Rattle.history.specs.declared.event.Journalled.{Journalled}

abbrev pub held_one : {S : Type 0} → (S → Command) → KeptChange S → Journalled
held_one told k = record { ticket = k.ticket; done = is_done k.standing; command = told k.saved }

-- the commands of the kept changes, the oldest first
abbrev pub held_in : {S : Type 0} → (S → Command) → List (KeptChange S) → List Journalled
held_in told kept = map (held_one told) kept
