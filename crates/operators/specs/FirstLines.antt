-- The lines that a service obeys before it is ready.
use Rattle.std.specs.Prelude.{◌≡◌, ◌++◌, ◌||◌, ℕ, Bool, false, List, Option, IfSome, Result, Ok, codes, decimal, nat_eq}
use Rattle.std.specs.List.{starts_with}
use Rattle.streams.specs.declared.fault.Ended.{Ended}
use Rattle.streams.specs.declared.fault.Ended.TheVariants.{EndOfInput}
use Rattle.streams.specs.Split.{IsLineHeard, lines_of}
use Rattle.streams.specs.Transcript.{Obeying, Transcript, paired}
use Rattle.clock.specs.Ticks.{Ticks}
use Rattle.command_text.specs.Control.{Calls, Controls}

-- The reply says that its line was not obeyed.
abbrev pub says_refused : List ℕ → Bool
says_refused reply = starts_with nat_eq reply (codes "error ") || starts_with nat_eq reply (codes "fault ")

-- A line is obeyed as one of an operator, it does not end the service, and gets this reply.
pub record IsRepliedTo {C D : Type 0} (ticks : Ticks C) (calls : Calls D) (clock : C) (desk : D) (line reply : List ℕ) (clock' : C) (desk' : D) : Type 0 where
  pub controls : Controls ticks calls clock desk line reply false clock' desk'

-- The line is obeyed as one of an operator, and its reply does not say that it was not obeyed.
pub record IsAccepted {C D : Type 0} (ticks : Ticks C) (calls : Calls D) (clock : C) (desk : D) (line : List ℕ) (clock' : C) (desk' : D) : Type 0 where
  pub reply : List ℕ
  pub obeyed : IsRepliedTo ticks calls clock desk line reply clock' desk'
  pub accepted : says_refused reply ≡ false

-- A line of a file is accepted, as far as it is heard, or it is the last.
abbrev pub AcceptsLine : {C D : Type 0} → Ticks C → Calls D → C → D → List ℕ → List ℕ → Bool → C → D → Type 0
AcceptsLine ticks calls clock desk line text ends clock' desk' =
    ends ≡ false → (heard : List ℕ) × IsLineHeard heard line × IsAccepted ticks calls clock desk heard clock' desk'

-- An input was read to its end, and each of its lines was accepted, in order.
pub record AcceptsInput {C D : Type 0} (ticks : Ticks C) (calls : Calls D) (unread : Option (List ℕ)) (clock : C) (desk : D)
    (clock' : C) (desk' : D) : Type 0 where
  pub input : List ℕ
  pub text : List ℕ
  pub all : IfSome unread (λ octets. input ≡ octets)
  pub obeyed : Transcript (paired (AcceptsLine ticks calls)) (clock, desk) (lines_of input) text (clock', desk')

-- If the run ended at the end of its input, each line was accepted.
abbrev pub AcceptsIfEnded : {C D E : Type 0} → Ticks C → Calls D → Result Ended E → Option (List ℕ) → C → D → C → D → Type 0
AcceptsIfEnded ticks calls result unread clock desk clock' desk' = result ≡ Ok EndOfInput → AcceptsInput ticks calls unread clock desk clock' desk'

-- The number of a line that was refused, its reply, and the line.
abbrev pub refusal_of : ℕ → List ℕ → List ℕ → List ℕ
refusal_of number reply line = codes "line " ++ decimal number ++ codes ": " ++ reply ++ codes ": " ++ line
