-- How a question begins.
use Rattle.std.proofs.Common.{◌≡◌, ◌≢◌, ℕ, List, [], ◌∷◌, Option, Some, None, MatchOption, ap, refl, subst, sym}
use Rattle.std.specs.Prelude.{IfSome}
use Rattle.dns_text.specs.declared.record.Question.{Question}
use Rattle.history.specs.declared.event.Ask.TheVariants.{Answer as Asked}
use Rattle.history.specs.declared.event.Event.{Event}
use Rattle.history.specs.declared.event.Event.TheVariants.{Look}
use Rattle.iterate.specs.declared.answer.Answer.{Answer}
use Rattle.iterate.specs.declared.answer.Answer.TheVariants.{Silent}
use Rattle.iterate.specs.declared.want.Input.{Input}
use Rattle.iterate.specs.declared.want.Input.TheVariants.{Begin}
use Rattle.iterate.specs.declared.want.Step.{Step}
use Rattle.iterate.specs.declared.want.Want.TheVariants.{Book, Finish}
use Rattle.iterate.specs.Exchanges.{Exchange, exchange, Adds}
use Rattle.iterate.specs.Phase.{Suits}
use Rattle.iterate.specs.Resolved.{IsNoAnswer, IsResolved}
use Rattle.iterate.specs.Wanted.{id_drawn}
use Rattle.rand_core.specs.Stream.{Stream}
use Rattle.clock.specs.Ticks.{Ticks}
use Rattle.replies.specs.Calls.{Calls, Draws}
use Rattle.flight.specs.declared.sockets.Listened.{Listened}
use Rattle.flight.specs.declared.sockets.Listened.TheVariants.{Anew}
use Rattle.flight.specs.Asking.{HasLooked}
use Rattle.flight.specs.FirstLook.{HearsOut, HeedsFirstLook, IsSilence, ListensTo}
use Rattle.flight.specs.Flight.{Hears, Answered, Flies, begins, goes_on, Lands}
use Rattle.flight.specs.Origin.{zone_of}
use Rattle.flight.specs.Waiting.{FlightState, UnderWay, exchange_at}
use Rattle.flight.proofs.Flying.{suits}

-- the first step of a task
abbrev pub look_step : Question → ℕ → Step
look_step question moment = record { input = Begin; want = Book (Look moment (Asked question)) }

module _ {D C : Type 0} {calls : Calls D} {seen : D → ℕ} {hears : Hears} {ticks : Ticks C} {since : ℕ} {question : Question} {moment : ℕ} {came : Input} {n : ℕ} where
  pub looked_by : (clock clock' : C) {event : Event} → event ≡ Look moment (Asked question) → ticks clock moment clock' → Answered calls seen hears since (Book event) came n
      → HasLooked calls seen hears ticks since question moment came n
  looked_by clock clock' is ticked answered =
      record { clock = clock; clock' = clock'; ticked = ticked; answered = subst (λ (e : Event). Answered calls seen hears since (Book e) came n) is answered }

  -- A task that has begun by the look goes on with what came of it. No number was drawn, so that the words may be any.
  pub looked_flies : HasLooked calls seen hears ticks since question moment came n → (port : ℕ) (words : Stream) (steps : List Step) → steps ≡ look_step question moment ∷ []
      → Flies calls seen hears ticks since port question steps came n
  looked_flies looked port words steps is =
      let draws : Draws ticks port question [] Begin (looked.clock, words) (Book (Look moment (Asked question))) steps (looked.clock', words) = record {
        wants = record { moment = moment; ticked = looked.ticked; grown = is; id = id_drawn words; may = refl };
        identifier = refl;
        taken = refl;
      } in
      goes_on begins draws looked.answered

  -- The look settles the question.
  pub looked_resolves : HasLooked calls seen hears ticks since question moment came n → (port : ℕ) (answer : Answer) (found : Option Answer) → found ≡ Some answer
      → ((port m : ℕ) (log : List Exchange) → Adds [] (exchange (Book (Look m (Asked question))) came) log → Suits (Book (Look m (Asked question))) came
      → MatchOption found (IsNoAnswer question came) (IsResolved port question log))
      → IsResolved port question (exchange (Book (Look moment (Asked question))) came ∷ []) answer
  looked_resolves looked port answer found is settles =
      let log = exchange (Book (Look moment (Asked question))) came ∷ [] in
      subst (λ (a : Option Answer). MatchOption a (IsNoAnswer question came) (IsResolved port question log)) is (settles port moment log (record { adds = refl }) (suits looked.answered))

  -- The look does not settle the question.
  pub looked_unsettled : HasLooked calls seen hears ticks since question moment came n → (port : ℕ) (found : Option Answer) → found ≡ None
      → ((port m : ℕ) (log : List Exchange) → Adds [] (exchange (Book (Look m (Asked question))) came) log → Suits (Book (Look m (Asked question))) came
      → MatchOption found (IsNoAnswer question came) (IsResolved port question log))
      → IsNoAnswer question came
  looked_unsettled looked port found is settles =
      let log = exchange (Book (Look moment (Asked question))) came ∷ [] in
      subst (λ (a : Option Answer). MatchOption a (IsNoAnswer question came) (IsResolved port question log)) is (settles port moment log (record { adds = refl }) (suits looked.answered))

  -- A task may give the answer then.
  pub looked_lands : HasLooked calls seen hears ticks since question moment came n → (port : ℕ) (words : Stream) (answer : Answer)
      → IsResolved port question (exchange (Book (Look moment (Asked question))) came ∷ []) answer → Lands calls seen hears ticks since port question answer
  looked_lands looked port words answer resolved =
      let first = look_step question moment in
      let last : Step = record { input = came; want = Finish answer } in
      let draws : Draws ticks port question (first ∷ []) came (looked.clock, words) (Finish answer) (first ∷ last ∷ []) (looked.clock', words) = record {
        wants = record { moment = moment; ticked = looked.ticked; grown = refl; id = id_drawn words; may = resolved };
        identifier = refl;
        taken = refl;
      } in
      record {
        steps = first ∷ last ∷ [];
        n = n;
        ends = record {
          before = first ∷ [];
          input = came;
          l = (looked.clock, words);
          l' = (looked.clock', words);
          flies = looked_flies looked port words (first ∷ []) refl;
          draws = draws;
        };
      }

  -- A task may end in silence if the look shows it.
  pub looked_silent : HasLooked calls seen hears ticks since question moment came n → (port : ℕ) (words : Stream) → IsSilence came → Lands calls seen hears ticks since port question Silent
  looked_silent looked port words is =
      looked_lands looked port words Silent (record { moment = moment; rest = []; begins = ap (λ (i : Input). exchange (Book (Look moment (Asked question))) i ∷ []) is })

module _ {D W L O : Type 0} (calls : Calls D) (listens : W → L → Listened → W → Type 0) (outbox : W → O) where
  -- A call listened to the line of an exchange. Nothing left by that, and if the question was to begin anew, it did.
  pub hears_out : (exchange : UnderWay) (desk desk' : D) (without flight' : FlightState) (old between after new : W) (question : Question) (line : L) (heard : Listened)
      → exchange.origin.zone ≡ zone_of question.owner → listens old line heard between → outbox after ≡ outbox old
      → (heard ≡ Anew → HeedsFirstLook calls question desk without (outbox after) desk' flight' (outbox new))
      → HearsOut calls listens outbox exchange desk without old desk' flight' new
  hears_out exchange desk desk' without flight' old between after new question line heard zone listened silent heeds = record {
    line = line;
    heard = heard;
    between = between;
    listened = listened;
    question = question;
    zone = zone;
    anew = λ is. subst (λ (out : O). HeedsFirstLook calls question desk without out desk' flight' (outbox new)) silent (heeds is);
  }

  -- The exchange under a key was taken out before.
  pub listens_there : (key : ℕ) (exchange : UnderWay) (desk desk' : D) (flight without flight' : FlightState) (old new : W)
      → exchange_at flight key ≡ Some exchange → exchange_at without key ≡ None → ((other : ℕ) → other ≢ key → exchange_at without other ≡ exchange_at flight other)
      → HearsOut calls listens outbox exchange desk without old desk' flight' new
      → IfSome (exchange_at flight key) (λ exchange. ListensTo calls listens outbox key exchange desk flight old desk' flight' new)
  listens_there key exchange desk desk' flight without flight' old new here gone others hears =
      subst (λ (slot : Option UnderWay). IfSome slot (λ exchange. ListensTo calls listens outbox key exchange desk flight old desk' flight' new)) (sym here)
      (record { without = without; gone = gone; others = others; hears = hears })
