-- Runs over the first lines, by the clock and the desk alone.
use Rattle.std.proofs.Common.{◌≡◌, ◌∙◌, ◌⊎◌, ◌++◌, ◌∷◌, [], ℕ, Bool, false, List, Option, Result, Some, None, Ok, Err, IfSome, IsErrOf, inl, inr, refl, sym, ap, subst, append-nil}
use Rattle.std.specs.Io.KnownBytes.{Consumes, IsAtEnd}
use Rattle.streams.specs.Engine.{RunsLines}
use Rattle.streams.specs.Split.{lines_of}
use Rattle.streams.specs.Transcript.{Transcript, paired}
use Rattle.streams.specs.declared.fault.Ended.{Ended}
use Rattle.streams.specs.declared.fault.Ended.TheVariants.{EndOfInput}
use Rattle.streams.specs.declared.fault.ScriptFault.{ScriptFault}
use Rattle.clock.specs.Ticks.{Ticks}
use Rattle.command_text.specs.declared.line.Line.{Line}
use Rattle.command_text.specs.declared.fault.LineFault.{LineFault}
use Rattle.command_text.specs.declared.fault.LineFault.TheVariants.{Unknown, Missing, BadName, BadType, BadData, BadAddress, TooLong, NoMemory}
use Rattle.command_text.specs.declared.words.Channel.TheVariants.{Control}
use Rattle.command_text.specs.Fault.{Gives}
use Rattle.command_text.specs.Line.{says}
use Rattle.command_text.specs.Control.{Calls, DoesAt, IsReadAs, Controls}
use Rattle.operators.specs.FirstLines.{AcceptsInput, AcceptsLine, IsRepliedTo}

all_read : (unread left : Option (List ℕ)) (input : List ℕ) → Consumes unread left input → IsAtEnd left → IfSome unread (λ octets. input ≡ octets)
all_read None left input reads end = tt
all_read (Some xs) None input reads end = absurd reads
all_read (Some xs) (Some ys) input reads end = sym (reads ∙ (ap (λ (rest : List ℕ). input ++ rest) end ∙ append-nil input))

-- A transcript of what is seen of the states.
lowered : {X C D : Type 0} (clock_of : X → C) (R : C → D → List ℕ → List ℕ → Bool → C → D → Type 0) (lines : List (List ℕ)) (p q : X × D) (text : List ℕ)
    → Transcript (paired (λ before desk line reply ends after desk'. R (clock_of before) desk line reply ends (clock_of after) desk')) p lines text q
    → Transcript (paired R) (clock_of p.0, p.1) lines text (clock_of q.0, q.1)
lowered {X = X} {D = D} clock_of R [] p q text told = (told.0, ap (λ (o : X × D). (clock_of o.0, o.1)) told.1)
lowered clock_of R (line ∷ lines) p q text told = (
  told.0,
  (clock_of told.1.0, told.1.1),
  told.2,
  told.3,
  lowered clock_of R lines told.1 q told.2 told.4,
  told.5,
)

pub accepts_all : {X C D : Type 0} (clock_of : X → C) (ticks : Ticks C) (calls : Calls D) (p q : X × D) (unread left old new : Option (List ℕ))
    → RunsLines (Ok EndOfInput)
    (paired (λ before desk line text ends after desk'. AcceptsLine ticks calls (clock_of before) desk line text ends (clock_of after) desk'))
    p q unread left old new
    → AcceptsInput ticks calls unread (clock_of p.0) p.1 (clock_of q.0) q.1
accepts_all clock_of ticks calls p q unread left old new runs = record {
  input = runs.input;
  text = runs.text;
  all = all_read unread left runs.input runs.reads runs.obeyed.1;
  obeyed = lowered clock_of (AcceptsLine ticks calls) (lines_of runs.input) p q runs.text runs.obeyed.0;
}

pub accepts_if : {X C D : Type 0} (clock_of : X → C) (ticks : Ticks C) (calls : Calls D) (result : Result Ended ScriptFault) (p q : X × D) (unread left old new : Option (List ℕ))
    → RunsLines result
    (paired (λ before desk line text ends after desk'. AcceptsLine ticks calls (clock_of before) desk line text ends (clock_of after) desk'))
    p q unread left old new
    → result ≡ Ok EndOfInput → AcceptsInput ticks calls unread (clock_of p.0) p.1 (clock_of q.0) q.1
accepts_if clock_of ticks calls result p q unread left old new runs is =
    accepts_all clock_of ticks calls p q unread left old new
    (subst (λ (r : Result Ended ScriptFault). RunsLines r (paired (λ before desk line text ends after desk'. AcceptsLine ticks calls (clock_of before) desk line text ends (clock_of after) desk')) p q unread left old new) is runs)

-- What was read is what the line says, or there was no memory for it.
said_or_dropped : (line : List ℕ) (said : Result Line LineFault) → Gives said (says Control line) → (says Control line ≡ said) ⊎ IsErrOf said NoMemory
said_or_dropped line (Ok what) gives = inl gives
said_or_dropped line (Err Unknown) gives = inl (gives (λ is. cc))
said_or_dropped line (Err Missing) gives = inl (gives (λ is. cc))
said_or_dropped line (Err BadName) gives = inl (gives (λ is. cc))
said_or_dropped line (Err BadType) gives = inl (gives (λ is. cc))
said_or_dropped line (Err BadData) gives = inl (gives (λ is. cc))
said_or_dropped line (Err BadAddress) gives = inl (gives (λ is. cc))
said_or_dropped line (Err TooLong) gives = inl (gives (λ is. cc))
said_or_dropped line (Err NoMemory) gives = inr refl

-- A line that was read, and then obeyed as it was read, is obeyed as one of control.
controls_read : {C D : Type 0} (ticks : Ticks C) (calls : Calls D) (clock clock' : C) (desk desk' : D) (line text : List ℕ) (ends : Bool)
    (said : Result Line LineFault) → IsReadAs line said → DoesAt ticks calls clock desk said text ends clock' desk'
    → Controls ticks calls clock desk line text ends clock' desk'
controls_read ticks calls clock clock' desk desk' line text ends said read does = elim (said_or_dropped line said read.0) [
  | inl is ↦ inl (subst (λ (r : Result Line LineFault). DoesAt ticks calls clock desk r text ends clock' desk') (sym is) does)
  | inr none ↦ inr (read.1 none, subst (λ (r : Result Line LineFault). DoesAt ticks calls clock desk r text ends clock' desk') none does)
]

-- If it does not end the service, its text is its reply.
pub replied : {C D : Type 0} (ticks : Ticks C) (calls : Calls D) (clock clock' : C) (desk desk' : D) (line text : List ℕ) (ends : Bool)
    (said : Result Line LineFault) → IsReadAs line said → DoesAt ticks calls clock desk said text ends clock' desk' → ends ≡ false
    → IsRepliedTo ticks calls clock desk line text clock' desk'
replied ticks calls clock clock' desk desk' line text ends said read does goes_on = record {
  controls = subst (λ (b : Bool). Controls ticks calls clock desk line text b clock' desk') goes_on
      (controls_read ticks calls clock clock' desk desk' line text ends said read does);
}
