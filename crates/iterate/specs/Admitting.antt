-- The finds of a response, handed to the book one by one.
use Rattle.std.specs.Prelude.{◌≡◌, ◌+◌, ◌<◌, ◌≤◌, ℕ, Bool, true, false, List, length, Option, Result, IfOk, MatchOption}
use Rattle.dns_text.specs.declared.record.Question.{Question}
use Rattle.dns_query.specs.declared.verdict.Heard.{Heard}
use Rattle.ranked.specs.declared.find.Find.{Find}
use Rattle.history.specs.declared.event.Event.{Event}
use Rattle.history.specs.declared.event.Event.TheVariants.{Admit}
use Rattle.iterate.specs.declared.limits.TheConstants.{MOST_FINDS}
use Rattle.iterate.specs.declared.phase.Advance.{Advance}
use Rattle.iterate.specs.declared.phase.Attempt.{Attempt}
use Rattle.iterate.specs.declared.phase.Attempt.TheVariants as attempt
use Rattle.iterate.specs.declared.phase.Handing.{Handing}
use Rattle.iterate.specs.declared.search.Search.{Search}
use Rattle.iterate.specs.declared.want.Input.{Input}
use Rattle.iterate.specs.declared.want.Want.TheVariants.{Book}
use Rattle.iterate.specs.Exchanges.{Exchange}
use Rattle.iterate.specs.Measure.{left_of_finds, left_of_hearing}
use Rattle.iterate.specs.Phase.{Advances, Drawing, IsHearing, IsTold, Suits}
use Rattle.iterate.specs.Resolved.{Fails}
use Rattle.iterate.specs.Room.{AsksNext, IsHanded, IsHandedBy, IsHandedNext, MadeRoom}
use Rattle.iterate.specs.Shown.{IsMisanswered}

-- A find that is so is handed to the book next.
abbrev pub HandsOver : {E : Type 0} → (Find → Type 0) → ℕ → Result Advance E → Type 0
HandsOver IsNext moment result = (find : Find) → IsNext find → IfOk result (λ told. told.want ≡ Book (Admit moment find))

-- A task continues after the book's reply to an attempt for the find at a place. It asks what comes next for that find. Once that one is done with, it hands over the one behind it. The step is well made, and less is left.
pub record ContinuesAfter {E : Type 0} (tried : Attempt) (handing : Handing) (port moment : ℕ) (input : Input) (ids : Drawing) (result : Result Advance E) : Type 0 where
  pub asks : (find : Find) → IsHanded handing.heard.value.harvest.chosen handing.allowed handing.next find →
      IfOk result (λ told. AsksNext tried find moment input told.want)
  pub further : HandsOver (IsHandedNext handing.heard.value.harvest.chosen handing.allowed handing.next tried input) moment result
  pub goes : (question : Question) (log : List Exchange) → IsTold port question log handing.search.value handing.heard.value handing.allowed handing.next tried input →
      IfOk result (Advances port question log moment ids (left_of_finds handing.search.value.path handing.next tried))

-- The find at this place, if one may be handed over there.
abbrev pub IsFindAt : List Find → ℕ → ℕ → Option Find → Type 0
IsFindAt finds allowed next found = MatchOption found ((find : Find) → ¬ (IsHanded finds allowed next find)) (IsHanded finds allowed next)

-- If this came of such an event, the event may not get it.
abbrev pub IsUnlawful : Event → Input → Type 0
IsUnlawful event input = Suits (Book event) input → IsMisanswered event input

-- In this attempt the find at a place is handed over, or behind the last find the response is acted on.
abbrev pub HandsOverIn : {E : Type 0} → Attempt → Handing → ℕ → ℕ → Drawing → Result Advance E → Type 0
HandsOverIn tried handing port moment ids result =
    (question : Question) (log : List Exchange) (left : ℕ) → IsHearing port question log handing.search.value handing.heard.value handing.allowed
    → ((find : Find) → IsHanded handing.heard.value.harvest.chosen handing.allowed handing.next find → IsHandedBy tried find log)
    → left_of_hearing handing.search.value.path 1 ≤ left
    → (handing.next < MOST_FINDS → left_of_finds handing.search.value.path handing.next tried < left)
    → IfOk result (Advances port question log moment ids left)

-- The first find of a response is handed over, or the response is acted on.
abbrev pub HandsOverFirst : {E : Type 0} → Search → Heard → ℕ → ℕ → ℕ → Drawing → Result Advance E → Type 0
HandsOverFirst search heard allowed port moment ids result =
    (question : Question) (log : List Exchange) (left : ℕ) → IsHearing port question log search heard allowed → ¬ (MadeRoom log)
    → left_of_hearing search.path 1 ≤ left → left_of_finds search.path 0 attempt.Admit < left
    → IfOk result (Advances port question log moment ids left)

-- The find behind that place is handed over next, if the book's reply was lawful.
abbrev pub HandsOverNext : {E : Type 0} → Bool → Handing → ℕ → Result Advance E → Type 0
HandsOverNext lawful handing moment result =
    (find : Find) → lawful ≡ true → IsHanded handing.heard.value.harvest.chosen handing.allowed (handing.next + 1) find
    → IfOk result (λ told. told.want ≡ Book (Admit moment find))

-- The task goes on behind the find at a place, or it fails because the book's reply was not lawful.
abbrev pub PassesOn : {E : Type 0} → Bool → Handing → ℕ → ℕ → Drawing → Result Advance E → Type 0
PassesOn lawful handing port moment ids result =
    (question : Question) (log : List Exchange) (tried : Attempt)
    → IsHearing port question log handing.search.value handing.heard.value handing.allowed → handing.next < MOST_FINDS → ¬ (MadeRoom log)
    → (lawful ≡ false → Fails port log handing.search.value.path.last (length handing.search.value.path.sets.items))
    → IfOk result (Advances port question log moment ids (left_of_finds handing.search.value.path handing.next tried))
