-- What a task asks next. A book that is full makes room for a find: it is swept, and then the name is forgotten whose data end first.
use Rattle.std.specs.Prelude.{◌≡◌, ℕ, ◌+◌, ◌<◌, Bool, true, false, List, ◌∷◌, Some, None, drop, length}
use Rattle.dns_name.specs.Labels.{Labels}
use Rattle.dns_query.specs.Query.{alias_question}
use Rattle.dns_query.specs.declared.verdict.Says.{Says}
use Rattle.dns_query.specs.declared.verdict.Says.TheVariants.{Denies}
use Rattle.ranked.specs.declared.find.Find.{Find}
use Rattle.history.specs.declared.book.StepFault.TheVariants.{Full}
use Rattle.history.specs.declared.desk.DeskFault.TheVariants.{Step}
use Rattle.history.specs.declared.event.Ask.TheVariants.{Answer as Asked, Oldest}
use Rattle.history.specs.declared.event.Event.{Event}
use Rattle.history.specs.declared.event.Event.TheVariants.{Admit, Look, Sweep, Forget}
use Rattle.history.specs.declared.event.Reply.TheVariants.{Seen, Swept, Forgotten}
use Rattle.history.specs.declared.event.Seen.{Seen as SeenValue}
use Rattle.history.specs.declared.event.Seen.TheVariants.{Oldest as SeenOldest}
use Rattle.iterate.specs.declared.answer.AnswerSet.{AnswerSet}
use Rattle.iterate.specs.declared.limits.TheConstants.{MOST_ALIASES, MOST_FINDS}
use Rattle.iterate.specs.declared.path.Path.{Path}
use Rattle.iterate.specs.declared.phase.Attempt.{Attempt}
use Rattle.iterate.specs.declared.phase.Attempt.TheVariants as attempt
use Rattle.iterate.specs.declared.phase.Phase.{Phase}
use Rattle.iterate.specs.declared.phase.Phase.TheVariants.{Admitting, Aliasing}
use Rattle.iterate.specs.declared.want.Allowance.{Allowance}
use Rattle.iterate.specs.declared.want.AskFault.TheVariants.{Desk}
use Rattle.iterate.specs.declared.want.Input.{Input}
use Rattle.iterate.specs.declared.want.Input.TheVariants.{Reply, Refused, Came}
use Rattle.iterate.specs.declared.want.Want.{Want}
use Rattle.iterate.specs.declared.want.Want.TheVariants.{Book}
use Rattle.iterate.specs.Exchanges.{Exchange, exchange, Adds, AddsLook}
use Rattle.iterate.specs.Looked.{IsReplied, IsSetSeen}
use Rattle.iterate.specs.Shown.{IsAdmitted}
use Rattle.iterate.specs.Told.{IsTarget}

-- ---- the last exchanges

-- whether what came of a want is room
abbrev pub is_room : Want → Input → Bool
is_room (Book (Sweep moment)) (Reply Swept) = true
is_room (Book (Forget moment owner)) (Reply Forgotten) = true
is_room want input = false

-- Room was made just now: the book was swept, or forgot a name.
pub record MadeRoom (log : List Exchange) : Type 0 where
  pub before : List Exchange
  pub want : Want
  pub input : Input
  pub adds : Adds before (exchange want input) log
  pub room : is_room want input ≡ true

-- A find was handed over just now, and the book was full.
pub record FoundFull (before : List Exchange) (find : Find) (log : List Exchange) : Type 0 where
  pub moment : ℕ
  pub stored : ℕ
  pub refused : Adds before (exchange (Book (Admit moment find)) (Refused (Desk (Step (Full stored))))) log

-- The book was full, and no room was made for the find so far.
pub record IsFull (find : Find) (log : List Exchange) : Type 0 where
  pub before : List Exchange
  pub anew : ¬ (MadeRoom before)
  pub full : FoundFull before find log

-- Then it was swept.
pub record IsSwept (find : Find) (log : List Exchange) : Type 0 where
  pub before : List Exchange
  pub full : IsFull find before
  pub moment : ℕ
  pub swept : Adds before (exchange (Book (Sweep moment)) (Reply Swept)) log

-- Then it was full again.
pub record IsFullAgain (find : Find) (log : List Exchange) : Type 0 where
  pub before : List Exchange
  pub swept : IsSwept find before
  pub full : FoundFull before find log

-- Then it gave this name as the one to forget first.
pub record IsNamed (find : Find) (owner : Labels) (log : List Exchange) : Type 0 where
  pub before : List Exchange
  pub full : IsFullAgain find before
  pub moment : ℕ
  pub named : AddsLook before moment Oldest (Reply (Seen (SeenOldest (Some owner)))) log

-- Then it forgot that name.
pub record IsForgotten (find : Find) (log : List Exchange) : Type 0 where
  pub before : List Exchange
  pub owner : Labels
  pub named : IsNamed find owner before
  pub moment : ℕ
  pub forgotten : Adds before (exchange (Book (Forget moment owner)) (Reply Forgotten)) log

-- A find is handed over anew, or again right behind what made room for it.
pub data MayHand (find : Find) (log : List Exchange) : Type 0 where
  anew : ¬ (MadeRoom log) → MayHand find log
  swept : IsSwept find log → MayHand find log
  forgotten : IsForgotten find log → MayHand find log

-- ---- the attempts

-- how many finds of a response that says this may be handed to a book
abbrev pub allowed_for : Says → Allowance → ℕ
allowed_for (Denies rcode negative) allowance = allowance.of_denial
allowed_for says allowance = allowance.finds

-- how many finds of what came, if it is a response that says this
abbrev pub allowed_in : Input → Says → ℕ
allowed_in (Came octets allowance) says = allowed_for says allowance
allowed_in input says = 0

-- A find is at this place of those chosen from a harvest, and is among the first ones, of which so many may be handed to a book.
pub record IsHanded (finds : List Find) (allowed next : ℕ) (find : Find) : Type 0 where
  pub within : next < allowed
  pub early : next < MOST_FINDS
  pub rest : List Find
  pub at : drop next finds ≡ find ∷ rest

-- A book is asked this, at some moment.
pub record IsAsked (want : Want) (event : ℕ → Event) : Type 0 where
  pub moment : ℕ
  pub wanted : want ≡ Book (event moment)

-- what the last exchanges are where a find is handed over
abbrev pub IsHandedBy : Attempt → Find → List Exchange → Type 0
IsHandedBy attempt.Admit find log = ¬ (MadeRoom log)
IsHandedBy attempt.Again find log = IsSwept find log
IsHandedBy attempt.Last find log = IsForgotten find log
IsHandedBy tried find log = ⊥

-- what is asked for a find in each attempt, and what the last exchanges are then
abbrev pub IsTrying : Attempt → Find → List Exchange → Want → Type 0
IsTrying attempt.Admit find log want = (¬ (MadeRoom log)) × IsAsked want (λ moment. Admit moment find)
IsTrying attempt.Sweep find log want = IsFull find log × IsAsked want (λ moment. Sweep moment)
IsTrying attempt.Again find log want = IsSwept find log × IsAsked want (λ moment. Admit moment find)
IsTrying attempt.Oldest find log want = IsFullAgain find log × IsAsked want (λ moment. Look moment Oldest)
IsTrying attempt.Forget find log want = (owner : Labels) × IsNamed find owner log × IsAsked want (λ moment. Forget moment owner)
IsTrying attempt.Last find log want = IsForgotten find log × IsAsked want (λ moment. Admit moment find)

-- The find at this place is being handed over, in this attempt.
pub record IsHanding (finds : List Find) (allowed next : ℕ) (tried : Attempt) (log : List Exchange) (want : Want) : Type 0 where
  pub find : Find
  pub handed : IsHanded finds allowed next find
  pub trying : IsTrying tried find log want

-- what is asked next for a find, where the book is full and where room was made
abbrev pub AsksNext : Attempt → Find → ℕ → Input → Want → Type 0
AsksNext attempt.Admit find moment (Refused (Desk (Step (Full stored)))) want = want ≡ Book (Sweep moment)
AsksNext attempt.Sweep find moment (Reply Swept) want = want ≡ Book (Admit moment find)
AsksNext attempt.Again find moment (Refused (Desk (Step (Full stored)))) want = want ≡ Book (Look 0 Oldest)
AsksNext attempt.Oldest find moment (Reply (Seen (SeenOldest (Some owner)))) want = want ≡ Book (Forget moment owner)
AsksNext attempt.Forget find moment (Reply Forgotten) want = want ≡ Book (Admit moment find)
AsksNext tried find moment input want = Unit {0}

-- what came of a look for the name to forget first names none
abbrev pub IsNoneOldest : Input → Type 0
IsNoneOldest (Reply (Seen (SeenOldest (Some owner)))) = ⊥
IsNoneOldest input = Unit {0}

-- What came is that the book was full.
abbrev pub SaysFull : Input → Type 0
SaysFull (Refused (Desk (Step (Full stored)))) = Unit {0}
SaysFull input = ⊥

-- A book took a find that was handed over, or it outranks or refuses it.
abbrev pub IsTaken : Input → Type 0
IsTaken (Reply reply) = IsAdmitted reply
IsTaken (Refused fault) = Unit {0}
IsTaken input = ⊥

-- A book refused what it was asked.
abbrev pub IsRefusal : Input → Type 0
IsRefusal (Refused fault) = Unit {0}
IsRefusal input = ⊥

-- A book has no name to forget, or does not say which, or was not asked.
abbrev pub NamesNone : Input → Type 0
NamesNone (Refused fault) = Unit {0}
NamesNone (Reply (Seen (SeenOldest None))) = Unit {0}
NamesNone input = ⊥

-- A find is done with: it was taken, outranked or refused, and no more room is made for it.
abbrev pub IsDone : Attempt → Input → Type 0
IsDone attempt.Admit input = IsTaken input × (¬ (SaysFull input))
IsDone attempt.Sweep input = IsRefusal input
IsDone attempt.Again input = IsTaken input × (¬ (SaysFull input))
IsDone attempt.Oldest input = NamesNone input
IsDone attempt.Forget input = IsRefusal input
IsDone attempt.Last input = IsTaken input

-- The find at this place was handed over and is done with, and this is the one behind it.
pub record IsHandedNext (finds : List Find) (allowed next : ℕ) (tried : Attempt) (input : Input) (behind : Find) : Type 0 where
  pub find : Find
  pub handed : IsHanded finds allowed next find
  pub done : IsDone tried input
  pub then_handed : IsHanded finds allowed (next + 1) behind

-- The finds of a response are handed over one by one, in order: room is made for the one at this place, and once it is done with, the one behind it is handed over.
pub record HandsOn (finds : List Find) (allowed next : ℕ) (tried : Attempt) (moment : ℕ) (input : Input) (want : Want) : Type 0 where
  pub room : (find : Find) → IsHanded finds allowed next find → AsksNext tried find moment input want
  pub further : (find : Find) → IsHandedNext finds allowed next tried input find → want ≡ Book (Admit moment find)

-- ---- aliases

-- A look at an alias of the last name saw one, this is its target (RFC 1034, section 3.6.2), and not too many were followed.
pub record LeadsOn (path : Path) (input : Input) (to : Labels) : Type 0 where
  pub seen : SeenValue
  pub told : AnswerSet
  pub replied : IsReplied (alias_question path.last.owner) input seen
  pub is_set : IsSetSeen seen told
  pub target : IsTarget told to
  pub few : length path.sets.items < MOST_ALIASES

-- What a task in this phase wants next: all finds of a response are handed over before it is acted on, and an alias is followed to the question about its target.
abbrev pub AsksOn : Phase → ℕ → Input → Want → Type 0
AsksOn (Admitting handing tried) moment input want = HandsOn handing.heard.value.harvest.chosen handing.allowed handing.next tried moment input want
AsksOn (Aliasing path) moment input want = (to : Labels) → LeadsOn path input to → want ≡ Book (Look moment (Asked (record { owner = to; kind = path.last.kind })))
AsksOn phase moment input want = Unit {0}
