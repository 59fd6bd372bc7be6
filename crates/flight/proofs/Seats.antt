-- At a seat of a shared book the numbers of a question's calls rise.
use Rattle.std.proofs.Common.{◌≡◌, ◌<◌, ◌≤◌, ◌++◌, ℕ, List, [], ◌∷◌, sym, ap, refl, subst, arith}
use Rattle.history.specs.declared.event.Event.{Event}
use Rattle.history.specs.declared.event.Reply.{Reply}
use Rattle.history.specs.declared.desk.DeskFault.{DeskFault}
use Rattle.history.specs.declared.desk.DeskFault.TheVariants.{Step as Faulted, Behind}
use Rattle.history.specs.declared.event.Settings.{Settings}
use Rattle.std.specs.Prelude.{Result, Ok, Err}
use Rattle.std.specs.List.{AllByRecursion}
use Rattle.shared_book.specs.Calling.{SeatCall, IsJustified}
use Rattle.shared_book.specs.Pass.{PassState}
use Rattle.clock.specs.Ticks.{Ticks}
use Rattle.replies.specs.Calls.{Calls}
use Rattle.dns_text.specs.declared.record.Question.{Question}
use Rattle.iterate.specs.declared.want.Input.{Input}
use Rattle.iterate.specs.declared.want.Input.TheVariants.{Reply as Replied}
use Rattle.iterate.specs.declared.want.Step.{Step}
use Rattle.iterate.specs.declared.want.Want.{Want}
use Rattle.iterate.specs.declared.want.Want.TheVariants.{Finish}
use Rattle.iterate.specs.Exchanges.{Exchange, exchange, exchanges_behind, exchanges_of}
use Rattle.flight.specs.Flight.{Hears, Answered, replied, refused, put_off, came, failed, Flies, begins, goes_on}
use Rattle.flight.specs.Laws.{AllAreLater, IsLater, NumbersNeverFall, ReceiptsRise}

-- a step, by its parts
abbrev step_of : Input → Want → Step
step_of input want = record { input = input; want = want }

behind_more : (want : Want) (rest : List Step) (last next : Step)
    → exchanges_behind want ((rest ++ last ∷ []) ++ next ∷ []) ≡ exchanges_behind want (rest ++ last ∷ []) ++ exchange last.want next.input ∷ []
behind_more want [] last next = refl
behind_more want (step ∷ rest) last next = ap (λ (log : List Exchange). exchange want step.input ∷ log) (behind_more step.want rest last next)

-- One step more answers the want of the last.
one_more : (steps : List Step) (last next : Step) → exchanges_of ((steps ++ last ∷ []) ++ next ∷ []) ≡ exchanges_of (steps ++ last ∷ []) ++ exchange last.want next.input ∷ []
one_more [] last next = refl
one_more (step ∷ steps) last next = behind_more step.want steps last next

-- What holds of each, and of one more.
all_then : (fact : Exchange → Type 0) {x : Exchange} (log : List Exchange) → AllByRecursion fact log → fact x → AllByRecursion fact (log ++ x ∷ [])
all_then fact [] all one = (one, tt)
all_then fact (y ∷ log) all one = (all.0, all_then fact log all.1 one)

module _ {B : Type 0} (stands_for : B → List Event → Type 0) (made_with : B → Settings) (stored : B → ℕ) (is_free : B → Event → Type 0) where
  risen : (settings : Settings) (pass pass' : PassState) (event : Event) (reply : Reply) → SeatCall stands_for made_with stored is_free settings pass event (Ok reply) pass'
      → (pass.seen < pass'.seen) × IsJustified settings pass'.seen event reply
  risen settings pass pass' event reply call =
      let receipt = call.0 in
      let number : pass'.seen ≡ receipt.number = ap (λ (p : PassState). p.seen) call.2.counted in
      (omega (arith, number, call.2.later), subst (λ (n : ℕ). IsJustified settings n event reply) (sym number) call.3)

  unseen : (settings : Settings) (pass pass' : PassState) (event : Event) (fault : DeskFault) → SeatCall stands_for made_with stored is_free settings pass event (Err fault) pass' → pass'.seen ≡ pass.seen
  unseen settings pass pass' event (Faulted fault) call = ap (λ (p : PassState). p.seen) call.0
  unseen settings pass pass' event (Behind at) call = ap (λ (p : PassState). p.seen) call.0

module _ {D : Type 0} {B : Type 0} (stands_for : B → List Event → Type 0) (made_with : B → Settings) (stored : B → ℕ) (is_free : B → Event → Type 0) (pass : D → PassState) (more : D → Result Reply DeskFault → Type 0) (settings : Settings) (hears : Hears) where
  -- the calls of a seat, by its pass, of which more may be known
  abbrev calls_by : Calls D
  calls_by before event answer after = SeatCall stands_for made_with stored is_free settings (pass before) event answer (pass after) × more before answer

  abbrev seen_by : D → ℕ
  seen_by seat = (pass seat).seen

  pub rises : ReceiptsRise calls_by seen_by hears settings
  rises n n' event reply (replied {d = d} {d' = d'} known call is) =
      let one = risen stands_for made_with stored is_free settings (pass d) (pass d') event reply call.0 in
      (omega (arith, one.0, known, is), subst (λ (m : ℕ). IsJustified settings m event reply) (sym is) one.1)

  pub never_falls : NumbersNeverFall calls_by seen_by hears
  never_falls n n' want input (replied {d = d} {d' = d'} {event = event} {reply = reply} known call is) =
      let one = risen stands_for made_with stored is_free settings (pass d) (pass d') event reply call.0 in
      omega (arith, one.0, known, is)
  never_falls n n' want input (refused {d = d} {d' = d'} {event = event} {fault = fault} known call is) =
      omega (arith, unseen stands_for made_with stored is_free settings (pass d) (pass d') event fault call.0, known, is)
  never_falls n n' want input (put_off known oldest is) = omega (arith, known, is)
  never_falls n n' want input (came heard) = omega arith
  never_falls n n' want input (failed none) = omega arith

  -- No number falls below that with which the question began.
  flown_on : {C : Type 0} {ticks : Ticks C} {since port : ℕ} {question : Question} {steps : List Step} {input : Input} {n : ℕ} → Flies calls_by seen_by hears ticks since port question steps input n → since ≤ n
  flown_on begins = omega arith
  flown_on (goes_on {input = input} {next = next} {want = want} {n = n} {n' = n'} before draws answered) = omega (arith, flown_on before, never_falls n n' want next answered)

  -- What answers a want has a later receipt, if the book gave it.
  later_one : (since n n' : ℕ) (want : Want) (next : Input) → since ≤ n → Answered calls_by seen_by hears n want next n' → IsLater settings since (exchange want next)
  later_one since n n' want next known answered event reply wants comes =
      let one = rises n n' event reply (subst (λ (w : Want). Answered calls_by seen_by hears n w (Replied reply) n') wants
      (subst (λ (i : Input). Answered calls_by seen_by hears n want i n') comes answered)) in
      (n', omega (arith, one.0, known), one.1)

  -- So it is with each reply of the book so far, whatever is wanted next.
  all_later : {C : Type 0} {ticks : Ticks C} {since port : ℕ} {question : Question} {steps : List Step} {input : Input} {n : ℕ} → Flies calls_by seen_by hears ticks since port question steps input n
      → (want : Want) → AllByRecursion (IsLater settings since) (exchanges_of (steps ++ step_of input want ∷ []))
  all_later begins want = tt
  all_later {since = since} (goes_on {steps = steps} {input = input} {next = next} {want = wanted} {n = n} {n' = n'} before draws answered) want =
      let so_far = all_then (IsLater settings since) (exchanges_of (steps ++ step_of input wanted ∷ [])) (all_later before wanted) (later_one since n n' wanted next (flown_on before) answered) in
      let log = sym (one_more steps (step_of input wanted) (step_of next want)) in
      subst (λ (list : List Step). AllByRecursion (IsLater settings since) (exchanges_of (list ++ step_of next want ∷ []))) (sym draws.wants.grown)
      (subst (λ (list : List Exchange). AllByRecursion (IsLater settings since) list) log so_far)

  pub later : {C : Type 0} {ticks : Ticks C} → AllAreLater calls_by seen_by hears ticks settings
  later since port question answer lands =
      let ends = lands.ends in
      subst (λ (list : List Step). AllByRecursion (IsLater settings since) (exchanges_of list)) (sym ends.draws.wants.grown) (all_later ends.flies (Finish answer))
