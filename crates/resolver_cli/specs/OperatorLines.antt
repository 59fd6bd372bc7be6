-- The lines of an operator: those that a service answers by itself, and those that it obeys as on any control socket.
use Rattle.std.specs.Prelude.{◌⊎◌, ℕ, Bool, List, Result, Ok}
use Rattle.streams.specs.Split.{IsLineHeard}
use Rattle.clock.specs.Ticks.{Ticks}
use Rattle.history.specs.declared.event.Ask.TheVariants.{NextUndo}
use Rattle.command_text.specs.declared.request.Request.TheVariants.{Look}
use Rattle.command_text.specs.declared.line.Line.{Line}
use Rattle.command_text.specs.declared.line.Line.TheVariants.{Status, Stats, Request as RequestLine}
use Rattle.command_text.specs.declared.fault.LineFault.{LineFault}
use Rattle.command_text.specs.Control.{Calls, DoesAt, IsReadAs}

-- A line that a service answers by itself: `status`, `stats` or `what_undo`.
abbrev pub IsOwn : Result Line LineFault → Type 0
IsOwn (Ok Status) = Unit {0}
IsOwn (Ok Stats) = Unit {0}
IsOwn (Ok (RequestLine (Look NextUndo))) = Unit {0}
IsOwn said = ⊥

-- What was read of a line is one of the service's own lines, or it is obeyed as on any control socket.
abbrev pub AnswersSaid : {C D : Type 0} → Ticks C → Calls D → C → D → Result Line LineFault → List ℕ → Bool → C → D → Type 0
AnswersSaid ticks calls clock desk said text ends clock' desk' = IsOwn said ⊎ DoesAt ticks calls clock desk said text ends clock' desk'

-- A line of an operator, as far as it is heard: it is read, and then it is one of the service's own, or it is obeyed as on any control
-- socket.
abbrev pub AnswersLine : {C D : Type 0} → Ticks C → Calls D → C → D → List ℕ → List ℕ → Bool → C → D → Type 0
AnswersLine ticks calls clock desk line text ends clock' desk' =
    (heard : List ℕ) × (said : Result Line LineFault) × IsLineHeard heard line × IsReadAs heard said
    × AnswersSaid ticks calls clock desk said text ends clock' desk'
