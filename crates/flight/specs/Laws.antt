-- Laws of the definitions at a seat of a shared book.
use Rattle.std.specs.Prelude.{◌≡◌, ◌≤◌, ◌<◌, ℕ}
use Rattle.std.specs.List.{AllByRecursion}
use Rattle.dns_text.specs.declared.record.Question.{Question}
use Rattle.history.specs.declared.event.Event.{Event}
use Rattle.history.specs.declared.event.Reply.{Reply}
use Rattle.history.specs.declared.event.Settings.{Settings}
use Rattle.iterate.specs.declared.want.Input.{Input}
use Rattle.iterate.specs.declared.want.Input.TheVariants.{Reply as Replied}
use Rattle.iterate.specs.declared.answer.Answer.{Answer}
use Rattle.iterate.specs.declared.want.Want.{Want}
use Rattle.iterate.specs.declared.want.Want.TheVariants.{Book}
use Rattle.iterate.specs.Exchanges.{Exchange, exchanges_of}
use Rattle.shared_book.specs.Calling.{IsJustified}
use Rattle.clock.specs.Ticks.{Ticks}
use Rattle.replies.specs.Calls.{Calls}
use Rattle.flight.specs.Flight.{Hears, Answered, Lands}

-- The number that a question knows of never falls.
abbrev pub NumbersNeverFall : {D : Type 0} → Calls D → (D → ℕ) → Hears → Type 0
NumbersNeverFall calls seen hears = (n n' : ℕ) (want : Want) (input : Input) → Answered calls seen hears n want input n' → n ≤ n'

-- Each reply of the book to a question has a receipt with a higher number than those before it. It is the reply that some history gives whose length is the number of calls before it.
abbrev pub ReceiptsRise : {D : Type 0} → Calls D → (D → ℕ) → Hears → Settings → Type 0
ReceiptsRise calls seen hears settings =
    (n n' : ℕ) (event : Event) (reply : Reply) → Answered calls seen hears n (Book event) (Replied reply) n' → (n < n') × IsJustified settings n' event reply

-- If the exchange is a call that the book replied to, the receipt of that reply has a higher number than this.
abbrev pub IsLater : Settings → ℕ → Exchange → Type 0
IsLater settings since x = (event : Event) (reply : Reply) → x.want ≡ Book event → x.input ≡ Replied reply → (n : ℕ) × (since < n) × IsJustified settings n event reply

-- An answer rests on calls behind its query: each reply of the book behind an answer has a receipt with a higher number than the desk knew of when its client was taken.
abbrev pub AllAreLater : {D C : Type 0} → Calls D → (D → ℕ) → Hears → Ticks C → Settings → Type 0
AllAreLater calls seen hears ticks settings =
    (since port : ℕ) (question : Question) (answer : Answer) (lands : Lands calls seen hears ticks since port question answer) → AllByRecursion (IsLater settings since) (exchanges_of lands.steps)
