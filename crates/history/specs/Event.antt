-- What the events say.
use Rattle.std.specs.Prelude.{ℕ, ◌≤◌, Bool, true, false, length, Option, Some, None}
use Rattle.dns_name.specs.Labels.{Labels}
use Rattle.dns_name.specs.Order.{name_eq}
use Rattle.dns_text.specs.declared.record.Question.{Question}
use Rattle.ranked.specs.declared.flush.Flush.{Flush as CellFlush}
use Rattle.ranked.specs.declared.flush.Reach.TheVariants as reach
use Rattle.ranked.specs.Flush.{reaches}
use Rattle.history.specs.declared.event.Event.{Event}
use Rattle.history.specs.declared.event.Event.TheVariants.{Admit, Look, Sweep, Forget, Do, Undo, Redo, UndoOf, RedoOf}
use Rattle.history.specs.declared.event.Settings.{Settings}
use Rattle.history.specs.declared.event.Command.{Command}
use Rattle.history.specs.declared.event.Command.TheVariants.{FlushType, Flush, FlushZone}
use Rattle.history.specs.declared.limits.TheConstants.{MOST_COMMANDS, MOST_CELLS, MOST_HINTS, LAGGING_CELLS}

-- the moment that an event gives
abbrev pub moment_of : Event → ℕ
moment_of (Admit moment find) = moment
moment_of (Look moment ask) = moment
moment_of (Sweep moment) = moment
moment_of (Forget moment owner) = moment
moment_of (Do moment command) = moment
moment_of (Undo moment) = moment
moment_of (Redo moment) = moment
moment_of (UndoOf moment ticket) = moment
moment_of (RedoOf moment ticket) = moment

-- whether an event admits a find
abbrev pub is_admission : Event → Bool
is_admission (Admit moment find) = true
is_admission _ = false

-- whether an event is but a moment and a ticket, so that its copy takes no memory
abbrev pub is_plain : Event → Bool
is_plain (Sweep moment) = true
is_plain (Undo moment) = true
is_plain (Redo moment) = true
is_plain (UndoOf moment ticket) = true
is_plain (RedoOf moment ticket) = true
is_plain _ = false

-- whether an event empties the cells of this name, whichever commands are in force
abbrev pub forgets : Labels → Event → Bool
forgets name (Forget moment owner) = name_eq owner name
forgets name event = false

-- the flush that a command gives, if it gives one
abbrev pub flush_of : Command → Option CellFlush
flush_of (FlushType target) = Some (record { name = target.owner; reach = reach.OneType target.kind })
flush_of (Flush name) = Some (record { name = name; reach = reach.Name })
flush_of (FlushZone name) = Some (record { name = name; reach = reach.Zone })
flush_of command = None

-- The questions whose cells a command empties: those that its flush covers.
abbrev pub covers : Command → Question → Bool
covers (FlushType target) question = reaches (reach.OneType target.kind) target.owner question
covers (Flush name) question = reaches reach.Name name question
covers (FlushZone name) question = reaches reach.Zone name question
covers command question = false

-- what a book may be made with
pub record AreSettings (s : Settings) : Type 0 where
  pub some_commands : 1 ≤ s.journal
  pub few_commands : s.journal ≤ MOST_COMMANDS
  pub some_cells : 1 ≤ s.cells
  pub few_cells : s.cells ≤ MOST_CELLS
  pub few_hints : length s.hints ≤ MOST_HINTS
  pub some_port : 1 ≤ s.server_port  -- It has 16 bits.

-- the settings of a book that lags behind one of these: the same, but it may store more cells than it can take events
abbrev pub lagging_of : Settings → Settings
lagging_of s = record { journal = s.journal; cells = LAGGING_CELLS; hints = s.hints; server_port = s.server_port }
