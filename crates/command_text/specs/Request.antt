-- Requests and the events that they become.
use Rattle.std.specs.Prelude.{ℕ}
use Rattle.history.specs.declared.event.Event.{Event}
use Rattle.history.specs.declared.event.Event.TheVariants as event
use Rattle.command_text.specs.declared.request.Request.{Request}
use Rattle.command_text.specs.declared.request.Request.TheVariants.{Look, Sweep, Forget, Do, Undo, Redo, UndoOf, RedoOf}

-- The event of a request at a moment.
abbrev pub event_at : ℕ → Request → Event
event_at moment (Look ask) = event.Look moment ask
event_at moment Sweep = event.Sweep moment
event_at moment (Forget owner) = event.Forget moment owner
event_at moment (Do command) = event.Do moment command
event_at moment Undo = event.Undo moment
event_at moment Redo = event.Redo moment
event_at moment (UndoOf ticket) = event.UndoOf moment ticket
event_at moment (RedoOf ticket) = event.RedoOf moment ticket
