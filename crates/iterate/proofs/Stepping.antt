-- How the exchanges grow by a step.
use Rattle.std.proofs.Common.{◌≡◌, ℕ, ◌+◌, ◌<◌, ◌≤◌, Bool, true, false, cond, arith, List, [], ◌∷◌, ◌++◌, sym, ap, ◌∙◌, subst, refl}
use Rattle.std.proofs.lemmas.List.Sums.{sum_by-cons}
use Rattle.dns_text.specs.declared.record.Question.{Question}
use Rattle.iterate.specs.declared.answer.Answer.{Answer}
use Rattle.iterate.specs.declared.phase.Advance.{Advance}
use Rattle.iterate.specs.declared.phase.Phase.{Phase}
use Rattle.iterate.specs.declared.phase.Phase.TheVariants.{Fresh, First, Aliasing, Looking, Following, Listing, Seeking, Sent, Admitting, Ended, Broken}
use Rattle.iterate.specs.declared.task.State.{State}
use Rattle.iterate.specs.declared.want.Input.{Input}
use Rattle.iterate.specs.declared.want.Step.{Step}
use Rattle.iterate.specs.declared.want.Want.{Want}
use Rattle.iterate.specs.declared.want.Want.TheVariants.{Finish}
use Rattle.iterate.specs.Exchanges.{Exchange, exchange, exchanges_behind, exchanges_of, last_behind, Stands, Adds, sends, is_send, wants_send, count_sends, sent_in}
use Rattle.iterate.specs.Measure.{left_in}
use Rattle.iterate.specs.Phase.{Remembers, Goes, IsDue, Suits, Drawing}
use Rattle.iterate.specs.Room.{AsksOn}
use Rattle.iterate.specs.Task.{IsTask, IsDueAt, IsKept, StepsOn}
use Rattle.iterate.specs.Told.{IsFit}
use Rattle.iterate.specs.Wanted.{MayWant, id_drawn, stream_behind}
use Rattle.iterate.proofs.FitLaws.{resolved_is_fit}
use Rattle.iterate.proofs.Handing.{handing_unsent}
use Rattle.iterate.proofs.PathTurns.{few_sent}

abbrev pub step_of : Input → Want → Step
step_of input want = record { input = input; want = want }

-- ---- the exchanges

exchanges_more : (want : Want) (steps : List Step) (s : Step) → exchanges_behind want (steps ++ s ∷ []) ≡ exchanges_behind want steps ++ exchange (last_behind want steps) s.input ∷ []
exchanges_more want [] s = refl
exchanges_more want (t ∷ steps) s = ap (λ (xs : List Exchange). exchange want t.input ∷ xs) (exchanges_more t.want steps s)

last_more : (want : Want) (steps : List Step) (s : Step) → last_behind want (steps ++ s ∷ []) ≡ s.want
last_more want [] s = refl
last_more want (t ∷ steps) s = last_more t.want steps s

stands_first : (input : Input) (want : Want) → Stands (step_of input want ∷ []) [] want
stands_first input want = record { first = step_of input want; rest = []; are = refl; exchanges = refl; last = refl }

stands_more : {steps : List Step} {log : List Exchange} {last : Want} → Stands steps log last → (input : Input) (want : Want)
    → Stands (steps ++ step_of input want ∷ []) (log ++ exchange last input ∷ []) want
stands_more {steps} {log} {last} s input want = record {
  first = s.first;
  rest = s.rest ++ step_of input want ∷ [];
  are = ap (λ (xs : List Step). xs ++ step_of input want ∷ []) s.are;
  exchanges = ap (λ (xs : List Exchange). xs ++ exchange last input ∷ []) s.exchanges
      ∙ ap (λ (w : Want). exchanges_behind s.first.want s.rest ++ exchange w input ∷ []) s.last
      ∙ sym (exchanges_more s.first.want s.rest (step_of input want));
  last = sym (last_more s.first.want s.rest (step_of input want));
}

stands_log : {steps : List Step} {log : List Exchange} {last : Want} → Stands steps log last → exchanges_of steps ≡ log
stands_log s = ap exchanges_of s.are ∙ sym s.exchanges

stands_due : {steps : List Step} {log : List Exchange} {last : Want} → Stands steps log last → (input : Input) → IsDue steps input → Suits last input
stands_due {steps} {log} {last} s input due =
    subst (λ (w : Want). Suits w input) (sym s.last) (subst (λ (xs : List Step). IsDue xs input) s.are due)

-- ---- how many queries were sent

sent_cons : (s : Step) (steps : List Step) → sent_in (s ∷ steps) ≡ cond (sends s.want) 1 0 + sent_in steps
sent_cons s steps = sum_by-cons (λ (t : Step). cond (wants_send t) 1 0) s steps

sends_cons : (x : Exchange) (log : List Exchange) → count_sends (x ∷ log) ≡ cond (sends x.want) 1 0 + count_sends log
sends_cons x log = sum_by-cons (λ (y : Exchange). cond (is_send y) 1 0) x log

-- those that got something or nothing, and the one that is open
sent_behind : (want : Want) (steps : List Step) → cond (sends want) 1 0 + sent_in steps ≡ count_sends (exchanges_behind want steps) + cond (sends (last_behind want steps)) 1 0
sent_behind want [] = omega arith
sent_behind want (t ∷ steps) = omega (arith, sent_behind t.want steps, sent_cons t steps, sends_cons (exchange want t.input) (exchanges_behind t.want steps))

stands_sent : {steps : List Step} {log : List Exchange} {last : Want} → Stands steps log last → sent_in steps ≡ count_sends log + cond (sends last) 1 0
stands_sent {steps} {log} {last} s =
    ap sent_in s.are ∙ sent_cons s.first s.rest ∙ sent_behind s.first.want s.rest
    ∙ ap (λ (xs : List Exchange). count_sends xs + cond (sends (last_behind s.first.want s.rest)) 1 0) (sym s.exchanges)
    ∙ ap (λ (w : Want). count_sends log + cond (sends w) 1 0) (sym s.last)

-- a want that is no query
none_open : (log : List Exchange) (want : Want) → sends want ≡ false → count_sends log ≤ 64 → count_sends log + cond (sends want) 1 0 ≤ 64
none_open log want is few = subst (λ (b : Bool). count_sends log + cond b 1 0 ≤ 64) (sym is) (omega (arith, few))

one_open : (log : List Exchange) (want : Want) → sends want ≡ true → count_sends log < 64 → count_sends log + cond (sends want) 1 0 ≤ 64
one_open log want is few = subst (λ (b : Bool). count_sends log + cond b 1 0 ≤ 64) (sym is) (omega (arith, few))

few_open : (port : ℕ) (question : Question) (log : List Exchange) (want : Want) (phase : Phase) → Remembers port question log want phase → count_sends log + cond (sends want) 1 0 ≤ 64
few_open port question log want Fresh f = absurd f
few_open port question log want Broken f = absurd f
few_open port question log want First f = none_open log want (ap sends f.1.wanted) (omega (arith, ap count_sends f.0))
few_open port question log want (Aliasing path) f = none_open log want (ap sends f.1.wanted) (few_sent f.0.askable.is_path)
few_open port question log want (Looking path) f = none_open log want (ap sends f.1.wanted) (few_sent f.0.is_path)
few_open port question log want (Following path harvest) f = none_open log want (ap sends f.2.wanted) (few_sent f.0.is_path)
few_open port question log want (Listing path) f = none_open log want (ap sends f.1.wanted) (few_sent f.0.is_path)
few_open port question log want (Seeking hunting target stage) f = none_open log want (ap sends f.1.wanted) (few_sent f.0.is_search.path)
few_open port question log want (Sent hunting server id over) f = one_open log want (ap sends f.wanted) (omega (arith, f.is_search.path.counted, f.some))
few_open port question log want (Admitting handing tried) f = none_open log want (handing_unsent f.1) (few_sent f.0.is_search.path)
few_open port question log want Ended f = none_open log want (ap sends f.1) f.2

-- ---- a step

-- A phase that fits makes a task.
task_of : (port : ℕ) (question : Question) {steps : List Step} {log : List Exchange} {want : Want} (phase : Phase)
    → Stands steps log want → Remembers port question log want phase → IsTask port question steps phase
task_of port question Fresh s f = absurd f
task_of port question Broken s f = absurd f
task_of port question First s f = record { log = _; want = _; stands = s; fits = f }
task_of port question (Aliasing path) s f = record { log = _; want = _; stands = s; fits = f }
task_of port question (Looking path) s f = record { log = _; want = _; stands = s; fits = f }
task_of port question (Following path harvest) s f = record { log = _; want = _; stands = s; fits = f }
task_of port question (Listing path) s f = record { log = _; want = _; stands = s; fits = f }
task_of port question (Seeking hunting target stage) s f = record { log = _; want = _; stands = s; fits = f }
task_of port question (Sent hunting server id over) s f = record { log = _; want = _; stands = s; fits = f }
task_of port question (Admitting handing tried) s f = record { log = _; want = _; stands = s; fits = f }
task_of port question Ended s f = record { log = _; want = _; stands = s; fits = f }

-- A step is well made.
pub record IsStep (port : ℕ) (question : Question) (steps : List Step) (moment : ℕ) (id : Drawing) (left : ℕ) (input : Input) (phase : Phase) (want : Want) : Type 0 where
  pub task : IsTask port question (steps ++ step_of input want ∷ []) phase
  pub wants : MayWant port question (exchanges_of (steps ++ step_of input want ∷ [])) moment (id_drawn id.before) want
  pub drawn : id.after ≡ stream_behind want id.before
  pub falls : left_in phase < left
  pub few : sent_in (steps ++ step_of input want ∷ []) ≤ 64

step_made : {port : ℕ} {question : Question} {steps : List Step} {log : List Exchange} {moment : ℕ} {id : Drawing} {left : ℕ} {input : Input} {phase : Phase} {want : Want}
    → Stands (steps ++ step_of input want ∷ []) log want → Goes port question log moment id left phase want → IsStep port question steps moment id left input phase want
step_made {port} {question} {steps} {log} {moment} {id} {left} {input} {phase} {want} s g = record {
  task = task_of port question phase s g.fits;
  wants = subst (λ (l : List Exchange). MayWant port question l moment (id_drawn id.before) want) (sym (stands_log s)) g.wants;
  drawn = g.drawn;
  falls = g.falls;
  few = subst (λ (n : ℕ). n ≤ 64) (sym (stands_sent s)) (few_open port question log want phase g.fits);
}

step_first : {port : ℕ} {question : Question} {steps : List Step} {moment : ℕ} {id : Drawing} {left : ℕ} {input : Input} {phase : Phase} {want : Want}
    → steps ≡ [] → Goes port question [] moment id left phase want → IsStep port question steps moment id left input phase want
step_first {port} {question} {steps} {moment} {id} {left} {input} {phase} {want} none g =
    step_made (subst (λ (xs : List Step). Stands (xs ++ step_of input want ∷ []) [] want) (sym none) (stands_first input want)) g

step_next : {port : ℕ} {question : Question} {steps : List Step} {log : List Exchange} {last : Want} {moment : ℕ} {id : Drawing} {left : ℕ} {input : Input} {phase : Phase} {want : Want}
    → Stands steps log last → Goes port question (log ++ exchange last input ∷ []) moment id left phase want → IsStep port question steps moment id left input phase want
step_next {input = input} {want = want} s g = step_made (stands_more s input want) g

-- what a turn gives of a phase
abbrev pub StepTurns : ℕ → Question → ℕ → Drawing → Input → Phase → Phase → Want → Type 0
StepTurns port question moment id input before after want =
    (log next : List Exchange) (last : Want) → Remembers port question log last before → Suits last input → Adds log (exchange last input) next → Goes port question next moment id (left_in before) after want

-- What a turn of a task gives, by where it is.
pub stepping : (port : ℕ) (question : Question) (steps : List Step) (moment : ℕ) (id : Drawing) (input : Input) (before after : Phase) (want : Want)
    → IsTask port question steps before → IsDueAt before steps input → StepTurns port question moment id input before after want
    → (before ≡ Fresh → Goes port question [] moment id (left_in before) after want) → (before ≡ Broken → ⊥)
    → IsStep port question steps moment id (left_in before) input after want
stepping port question steps moment id input Fresh after want t due goes fresh broken = step_first t (fresh refl)
stepping port question steps moment id input Broken after want t due goes fresh broken = absurd (broken refl)
stepping port question steps moment id input First after want t due goes fresh broken = step_next t.stands (goes t.log _ t.want t.fits (stands_due t.stands input due) (record { adds = refl }))
stepping port question steps moment id input (Aliasing path) after want t due goes fresh broken = step_next t.stands (goes t.log _ t.want t.fits (stands_due t.stands input due) (record { adds = refl }))
stepping port question steps moment id input (Looking path) after want t due goes fresh broken = step_next t.stands (goes t.log _ t.want t.fits (stands_due t.stands input due) (record { adds = refl }))
stepping port question steps moment id input (Following path harvest) after want t due goes fresh broken = step_next t.stands (goes t.log _ t.want t.fits (stands_due t.stands input due) (record { adds = refl }))
stepping port question steps moment id input (Listing path) after want t due goes fresh broken = step_next t.stands (goes t.log _ t.want t.fits (stands_due t.stands input due) (record { adds = refl }))
stepping port question steps moment id input (Seeking hunting target stage) after want t due goes fresh broken = step_next t.stands (goes t.log _ t.want t.fits (stands_due t.stands input due) (record { adds = refl }))
stepping port question steps moment id input (Sent hunting server i over) after want t due goes fresh broken = step_next t.stands (goes t.log _ t.want t.fits (stands_due t.stands input due) (record { adds = refl }))
stepping port question steps moment id input (Admitting handing tried) after want t due goes fresh broken = step_next t.stands (goes t.log _ t.want t.fits (stands_due t.stands input due) (record { adds = refl }))
stepping port question steps moment id input Ended after want t due goes fresh broken = step_next t.stands (goes t.log _ t.want t.fits (stands_due t.stands input due) (record { adds = refl }))

-- An answer that may be wanted can be written.
pub wanted_is_fit : (port : ℕ) (question : Question) (log : List Exchange) (moment id : ℕ) (want : Want) → MayWant port question log moment id want → (answer : Answer) → want ≡ Finish answer → IsFit answer
wanted_is_fit port question log moment id want may answer is = resolved_is_fit port question log answer (subst (λ (w : Want). MayWant port question log moment id w) is may)

-- A step that was kept.
pub kept_task : {moment left : ℕ} {id : Drawing} {input : Input} {want : Want} (before after : State) (next : Advance) → IsStep before.port before.question before.steps.items moment id left input next.phase next.want
    → IsKept before input next after want → IsTask before.port before.question after.steps.items after.phase
kept_task before after next made k =
    subst (λ (p : Phase). IsTask before.port before.question after.steps.items p) (sym k.phase) (subst (λ (xs : List Step). IsTask before.port before.question xs next.phase) (sym k.steps) made.task)

pub kept_steps : {moment : ℕ} {id : Drawing} {input : Input} {was : Phase} {want : Want} (before after : State) (next : Advance) → was ≡ before.phase → AsksOn was moment input next.want
    → IsStep before.port before.question before.steps.items moment id (left_in was) input next.phase next.want → IsKept before input next after want → StepsOn before input moment id after want
kept_steps {moment} {id} {input} {was} {want} before after next same asks made k =
    subst (λ (w : Want). StepsOn before input moment id after w) (sym k.wanted) (record {
      steps = k.steps;
      wants = subst (λ (xs : List Step). MayWant before.port before.question (exchanges_of xs) moment (id_drawn id.before) next.want) (sym k.steps) made.wants;
      drawn = made.drawn;
      asks = subst (λ (p : Phase). AsksOn p moment input next.want) same asks;
      fit = wanted_is_fit before.port before.question _ moment _ next.want made.wants;
      left = subst (λ (p : Phase). left_in p < left_in before.phase) (sym k.phase) (subst (λ (p : Phase). left_in next.phase < left_in p) same made.falls);
      few = subst (λ (xs : List Step). sent_in xs ≤ 64) (sym k.steps) made.few;
    })
