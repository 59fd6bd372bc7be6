-- What is heard of a line tells what it says.
use Rattle.std.proofs.Common.{◌≡◌, ℕ, ◌<◌, Bool, List, [], ◌∷◌, length, take, inl, inr, refl, sym, ◌∙◌, ap, subst, Result, IsTrue}
use Rattle.std.proofs.lemmas.Bool.{lt-ltb}
use Rattle.streams.specs.declared.held_line.TheConstants.{LONGEST_LINE}
use Rattle.streams.specs.Split.{IsLineHeard}
use Rattle.history.specs.declared.event.Settings.{Settings}
use Rattle.command_text.specs.declared.line.Line.{Line}
use Rattle.command_text.specs.declared.fault.LineFault.{LineFault}
use Rattle.command_text.specs.declared.words.Channel.{Channel}
use Rattle.command_text.specs.declared.words.Channel.TheVariants.{Script, Control}
use Rattle.command_text.specs.Line.{is_silent, says, takes_memory}
use Rattle.command_text.specs.Obeying.{Place, DoesUnless, Obeys}
use Rattle.clock.specs.Ticks.{Ticks}
use Rattle.command_text.specs.Control.{Calls, DoesAt, Controls}

-- two lines that are taken as one where they come from there
abbrev Same : Channel → List ℕ → List ℕ → Type 0
Same channel xs ys = (says channel xs ≡ says channel ys) × (takes_memory channel xs ≡ takes_memory channel ys)

silent-first : (xs : List ℕ) → is_silent (take 1 xs) ≡ is_silent xs
silent-first [] = refl
silent-first (x ∷ xs) = refl

-- Of lines that are too long only the first octet matters.
long : (channel : Channel) (xs ys : List ℕ) → is_silent xs ≡ is_silent ys → LONGEST_LINE < length xs → LONGEST_LINE < length ys → Same channel xs ys
long channel xs ys s p q = (
  rw (s, lt-ltb LONGEST_LINE (length xs) p, lt-ltb LONGEST_LINE (length ys) q) refl,
  rw (lt-ltb LONGEST_LINE (length xs) p, lt-ltb LONGEST_LINE (length ys) q) refl,
)

heard-same : (channel : Channel) (line whole : List ℕ) → IsLineHeard line whole → Same channel line whole
heard-same channel line whole h = elim h [
  | inl e ↦ (ap (λ (l : List ℕ). says channel l) e, ap (λ (l : List ℕ). takes_memory channel l) e)
  | inr p ↦ long channel line whole (sym (silent-first line) ∙ ap (λ (l : List ℕ). is_silent l) p.2 ∙ silent-first whole) p.0 p.1
]

-- What a line of a script is told is what the whole of it is told.
pub obeys-heard : (settings : Settings) (place next : Place) (text line whole : List ℕ) → IsLineHeard line whole → Obeys settings place line text next → Obeys settings place whole text next
obeys-heard settings place next text line whole heard o =
    let same = heard-same Script line whole heard in
    let second = subst (λ (r : Result Line LineFault). DoesUnless settings place r (takes_memory Script line) text next) same.0 o in
    subst (λ (b : Bool). DoesUnless settings place (says Script whole) b text next) same.1 second

-- Nor is one of control told anything else.
pub controls-heard : (C D : Type 0) (ticks : Ticks C) (calls : Calls D) (clock clock' : C) (desk desk' : D) (text line whole : List ℕ) (ends : Bool) → IsLineHeard line whole
    → Controls ticks calls clock desk line text ends clock' desk' → Controls ticks calls clock desk whole text ends clock' desk'
controls-heard C D ticks calls clock clock' desk desk' text line whole ends heard o =
    let same = heard-same Control line whole heard in
    elim o [
      | inl does ↦ inl (subst (λ (r : Result Line LineFault). DoesAt ticks calls clock desk r text ends clock' desk') same.0 does)
      | inr drops ↦ inr (subst (λ (b : Bool). IsTrue b) same.1 drops.0, drops.1)
    ]
