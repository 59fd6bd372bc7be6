-- The change that a command makes.
use Rattle.std.specs.Prelude.{◌≡◌}
use Rattle.std.specs.Option.{option_map}
use Rattle.dns_text.specs.declared.record.Question.{Question}
use Rattle.history.specs.declared.event.Command.{Command}
use Rattle.history.specs.declared.tables.Tables.{Tables}
use Rattle.history.specs.Changes.{after_command_on, reason_on}
use Rattle.history.specs.Event.{covers}
use Rattle.world_book.specs.Removals.{removes}
use Rattle.world_book.specs.Step.{code_of}
use Rattle.world_book.specs.Versions.{table_of}
use Rattle.store.specs.declared.store.Made.{Made}
use Rattle.store.specs.Store.{reason_of_made, after_made, empties_made, removes_made, table_of_made}

-- It changes the same table, does to the tables and the cells what the command does, is refused for the same reason, and removes something if the command does.
pub record IsMadeOf (command : Command) (made : Made) : Type 0 where
  pub after : (t : Tables) → after_made made t ≡ after_command_on command t
  pub empties : (q : Question) → empties_made made q ≡ covers command q
  pub table : table_of_made made ≡ table_of command
  pub reason : (t : Tables) → reason_of_made made t ≡ option_map code_of (reason_on t command)
  pub removes : (t : Tables) → removes_made made t ≡ removes command t
