-- A question fails only where its first look got no answer.
use Rattle.std.proofs.Common.{◌≡◌, ℕ, Bool, List, [], ◌∷◌, Option, sym, ap, ◌∙◌, subst, arith}
use Rattle.dns_text.specs.declared.record.Question.{Question}
use Rattle.history.specs.declared.event.Seen.{Seen as SeenValue}
use Rattle.iterate.specs.declared.answer.AnswerSet.{AnswerSet}
use Rattle.iterate.specs.declared.answer.Answer.TheVariants.{Reply as Replies}
use Rattle.iterate.specs.declared.answer.Soa.{Soa}
use Rattle.iterate.specs.declared.want.Input.{Input}
use Rattle.iterate.specs.Exchanges.{Exchange}
use Rattle.iterate.specs.Resolved.{Began, BeganUnanswered, IsNoAnswer, ResolvedAs, IsResolved}
use Rattle.iterate.specs.Shown.{EndsQuestion}

-- What ends a question does not fail it.
ends_well : {question : Question} {seen : SeenValue} {rcode : ℕ} {last : Option AnswerSet} {authority : Option Soa} → EndsQuestion question seen rcode last authority → rcode ≡ 2 → ⊥
ends_well (EndsQuestion.held is) fails = absurd (omega (arith, fails))
ends_well (EndsQuestion.held_no_data is body) fails = absurd (omega (arith, fails))
ends_well (EndsQuestion.held_no_name is body) fails = absurd (omega (arith, fails))
ends_well (EndsQuestion.local_set is) fails = absurd (omega (arith, fails))
ends_well (EndsQuestion.local_no_data formed) fails = absurd (omega (arith, fails))
ends_well (EndsQuestion.local_no_name formed) fails = absurd (omega (arith, fails))

unanswered : {port : ℕ} {question : Question} {log : List Exchange} {rcode : ℕ} {aa : Bool} {aliases : List AnswerSet} {last : Option AnswerSet} {authority : Option Soa}
    → ResolvedAs port question log rcode aa aliases last authority → rcode ≡ 2 → BeganUnanswered question log
unanswered (ResolvedAs.at_once began ends) fails = absurd (ends_well ends fails)
unanswered (ResolvedAs.looked began chain few happened ends) fails = began
unanswered (ResolvedAs.found began chain few unknown known) fails = began
unanswered (ResolvedAs.denied began chain few is) fails = began
unanswered (ResolvedAs.refused began) fails = absurd (omega (arith, fails))
unanswered (ResolvedAs.failed began chain failing) fails = began

first_input : List Exchange → Input → Input
first_input [] none = none
first_input (x ∷ log) none = x.input

same_first : {question : Question} {input other : Input} {log : List Exchange} → Began question input log → Began question other log → input ≡ other
unfolding first_input
same_first {input = input} b c = ap (λ (log : List Exchange). first_input log input) (sym b.begins ∙ c.begins)

pub fails_unanswered : (port : ℕ) (question : Question) (input : Input) (log : List Exchange) (aa : Bool) (aliases : List AnswerSet) (last : Option AnswerSet) (authority : Option Soa)
    → IsResolved port question log (Replies 2 aa aliases last authority) → Began question input log → IsNoAnswer question input
fails_unanswered port question input log aa aliases last authority resolved began =
    let u = unanswered resolved (omega arith) in
    subst (λ (i : Input). IsNoAnswer question i) (same_first u.began began) u.no_answer
