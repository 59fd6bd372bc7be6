-- The steps of a task as exchanges: what was wanted, and what came of it.
use Rattle.std.specs.Prelude.{◌≡◌, ℕ, Bool, true, false, List, [], ◌∷◌, ◌++◌, count_by}
use Rattle.iterate.specs.declared.want.Input.{Input}
use Rattle.iterate.specs.declared.want.Step.{Step}
use Rattle.iterate.specs.declared.want.Want.{Want}
use Rattle.history.specs.declared.event.Ask.{Ask}
use Rattle.history.specs.declared.event.Event.TheVariants.{Look}
use Rattle.iterate.specs.declared.want.Want.TheVariants.{Book, Send}

-- what was wanted, and what came of it
pub record Exchange : Type 0 where
  pub want : Want
  pub input : Input

-- the exchange of these two
abbrev pub exchange : Want → Input → Exchange
exchange want input = record { want = want; input = input }

-- What came of a want is the input of the next step.
abbrev pub exchanges_behind : Want → List Step → List Exchange
exchanges_behind want [] = []
exchanges_behind want (step ∷ steps) = exchange want step.input ∷ exchanges_behind step.want steps

-- The last want is still open.
abbrev pub exchanges_of : List Step → List Exchange
exchanges_of [] = []
exchanges_of (step ∷ steps) = exchanges_behind step.want steps

-- the want of the last step
abbrev pub last_behind : Want → List Step → Want
last_behind want [] = want
last_behind want (step ∷ steps) = last_behind step.want steps

-- The steps are these exchanges, and this want is open.
pub record Stands (steps : List Step) (log : List Exchange) (open_want : Want) : Type 0 where
  pub first : Step
  pub rest : List Step
  pub are : steps ≡ first ∷ rest
  pub exchanges : log ≡ exchanges_behind first.want rest
  pub last : open_want ≡ last_behind first.want rest

-- The log is the one before, and then this exchange.
pub record Adds (before : List Exchange) (x : Exchange) (log : List Exchange) : Type 0 where
  pub adds : log ≡ before ++ x ∷ []

-- The log is the one before, and then a look at the book and what it got.
abbrev pub AddsLook : List Exchange → ℕ → Ask → Input → List Exchange → Type 0
AddsLook before moment ask input log = Adds before (exchange (Book (Look moment ask)) input) log

-- An exchange happened.
pub record Happened (log : List Exchange) (x : Exchange) : Type 0 where
  pub before : List Exchange
  pub after : List Exchange
  pub split : log ≡ before ++ x ∷ after

-- whether a want is a query
abbrev pub sends : Want → Bool
sends (Send server over bytes) = true
sends want = false

-- whether an exchange is a query and what came of it
abbrev pub is_send : Exchange → Bool
is_send x = sends x.want

-- No query is among them.
abbrev pub AreQuiet : List Exchange → Type 0
AreQuiet log = (x : Exchange) → Happened log x → is_send x ≡ false

-- how many queries were sent, and got something or nothing
abbrev pub count_sends : List Exchange → ℕ
count_sends log = count_by is_send log

-- whether a step wants a query
abbrev pub wants_send : Step → Bool
wants_send step = sends step.want

-- how many queries were wanted
abbrev pub sent_in : List Step → ℕ
sent_in steps = count_by wants_send steps
