-- Calls of a desk.
use Rattle.std.specs.Prelude.{◌≡◌, ℕ, List, [], ◌∷◌, Result, Ok, Err, IfErr, IsErrOf, OnErr, OnOk}
use Rattle.history.specs.declared.event.Event.{Event}
use Rattle.history.specs.declared.event.Reply.{Reply}
use Rattle.history.specs.declared.event.Settings.{Settings}
use Rattle.history.specs.declared.book.StepFault.{StepFault}
use Rattle.history.specs.declared.book.StepFault.TheVariants.{Full}
use Rattle.history.specs.declared.desk.DeskFault.{DeskFault}
use Rattle.history.specs.declared.desk.DeskFault.TheVariants.{Step}
use Rattle.history.specs.Answers.{Answers, SweepsAll, TellsLimit, history_after}

-- one step of a book, as its promise says: the book before, the event, the answer, the book after
pub record IsStep {B : Type 0} (stands_for : B → List Event → Type 0) (settings : B → Settings) (stored : B → ℕ) (before : B) (event : Event) (answer : Result Reply StepFault) (after : B) : Type 0 where
  pub answers : (h : List Event) → stands_for before h → Answers (settings before) h event answer
  pub stands : (h : List Event) → stands_for before h → stands_for after (history_after h event answer)
  pub full : (n : ℕ) → IsErrOf answer (Full n) → stored before ≡ n
  pub same_store : OnErr answer (stored after ≡ stored before)
  pub same_settings : settings after ≡ settings before
  pub by_limit : IfErr answer (λ fault. (h : List Event) → stands_for before h → TellsLimit (stored before) (settings before).cells event fault)

-- what a desk answers where its book answers this
abbrev pub desk_answer : Result Reply StepFault → Result Reply DeskFault
desk_answer (Ok reply) = Ok reply
desk_answer (Err fault) = Err (Step fault)

-- One call of a book is one step of it. A sweep leaves nothing to sweep.
abbrev pub BookCall : {B : Type 0} → (B → List Event → Type 0) → (B → Settings) → (B → ℕ) → (B → ℕ) → B → Event → Result Reply DeskFault → B → Type 0
BookCall stands_for settings stored unswept before event answer after =
    (told : Result Reply StepFault) × (answer ≡ desk_answer told) × IsStep stands_for settings stored before event told after
    × OnOk told (SweepsAll event (unswept after))

-- one call of a desk: an event, with its answer
pub record Call : Type 0 where
  pub event : Event
  pub answer : Result Reply DeskFault

-- Calls, each by the relation of one call, lead from one desk to another.
abbrev pub CallsLead : {D : Type 0} → (D → Event → Result Reply DeskFault → D → Type 0) → D → List Call → D → Type 0
CallsLead calls before [] after = after ≡ before
CallsLead {D} calls before (c ∷ later) after = (next : D) × calls before c.event c.answer next × CallsLead calls next later after
