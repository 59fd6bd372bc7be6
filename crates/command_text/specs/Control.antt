-- Control lines: the effect of each, and its reply.
use Rattle.std.specs.Prelude.{◌≡◌, ℕ, Bool, true, false, IsTrue, ◌⊎◌, Result, Ok, Err, IsErrOf, List, [], codes}
use Rattle.streams.specs.Split.{with_end}
use Rattle.clock.specs.Ticks.{Ticks}
use Rattle.history.specs.declared.event.Event.{Event}
use Rattle.history.specs.declared.event.Reply.{Reply}
use Rattle.history.specs.declared.desk.DeskFault.{DeskFault}
use Rattle.command_text.specs.declared.request.Request.{Request}
use Rattle.command_text.specs.declared.line.Line.{Line}
use Rattle.command_text.specs.declared.line.Line.TheVariants.{Silent, Request as RequestLine, Stop}
use Rattle.command_text.specs.declared.fault.LineFault.{LineFault}
use Rattle.command_text.specs.declared.fault.LineFault.TheVariants.{Unknown, NoMemory}
use Rattle.command_text.specs.declared.words.Channel.TheVariants.{Control}
use Rattle.command_text.specs.Fault.{Gives}
use Rattle.command_text.specs.Request.{event_at}
use Rattle.command_text.specs.Line.{says, takes_memory}
use Rattle.command_text.specs.Text.{line_fault_text}
use Rattle.command_text.specs.Obeying.{IsTextOf}

-- One call of a desk: the desk before, the event, its answer, the desk after.
abbrev pub Calls : Type 0 → Type 1
Calls D = D → Event → Result Reply DeskFault → D → Type 0

-- The clock is read once, the desk gets the request at that moment, and the reply is the desk's answer as text.
pub record IsAsked {C D : Type 0} (ticks : Ticks C) (calls : Calls D) (clock : C) (desk : D) (request : Request) (text : List ℕ) (clock' : C) (desk' : D) : Type 0 where
  pub moment : ℕ
  pub read : ticks clock moment clock'
  pub answer : Result Reply DeskFault
  pub called : calls desk (event_at moment request) answer desk'
  pub told : IsTextOf answer text

-- The reply is this text. The clock is not read, and the desk is not called.
pub record IsTold {C D : Type 0} (clock : C) (desk : D) (this text : List ℕ) (clock' : C) (desk' : D) : Type 0 where
  pub text_is : text ≡ this
  pub same_clock : clock' ≡ clock
  pub same_desk : desk' ≡ desk

-- A control line is read as this: as what it says, or it needs memory and there is none.
abbrev pub IsReadAs : List ℕ → Result Line LineFault → Type 0
IsReadAs line said = Gives said (says Control line) × (IsErrOf said NoMemory → IsTrue (takes_memory Control line))

-- The effect of a line that is read as this. Only a script has the lines that give moments and finds, and only a service answers
-- `status` and `stats`: here they are unknown commands.
abbrev pub DoesAt : {C D : Type 0} → Ticks C → Calls D → C → D → Result Line LineFault → List ℕ → Bool → C → D → Type 0
DoesAt ticks calls clock desk (Ok Silent) text ends clock' desk' = IsTold clock desk [] text clock' desk' × (ends ≡ false)
DoesAt ticks calls clock desk (Ok (RequestLine request)) text ends clock' desk' = IsAsked ticks calls clock desk request text clock' desk' × (ends ≡ false)
DoesAt ticks calls clock desk (Ok Stop) text ends clock' desk' = IsTold clock desk (with_end (codes "ok stopping")) text clock' desk' × (ends ≡ true)
DoesAt ticks calls clock desk (Ok _) text ends clock' desk' = IsTold clock desk (line_fault_text Unknown) text clock' desk' × (ends ≡ false)
DoesAt ticks calls clock desk (Err fault) text ends clock' desk' = IsTold clock desk (line_fault_text fault) text clock' desk' × (ends ≡ false)

-- One control line: it is obeyed, or it needs memory and there is none.
abbrev pub Controls : {C D : Type 0} → Ticks C → Calls D → C → D → List ℕ → List ℕ → Bool → C → D → Type 0
Controls ticks calls clock desk line text ends clock' desk' =
    DoesAt ticks calls clock desk (says Control line) text ends clock' desk'
    ⊎ (IsTrue (takes_memory Control line) × DoesAt ticks calls clock desk (Err NoMemory) text ends clock' desk')
