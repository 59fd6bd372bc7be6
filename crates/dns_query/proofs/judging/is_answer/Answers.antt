use Rattle.std.proofs.Common.{inl, inr, sym, ◌∙◌}
use Rattle.std.proofs.lemmas.Bool.{false≢true}
use Rattle.dns_query.proofs.judging.is_answer.Goals as goal

pub returns-then-has : goal.returns-then-has
returns-then-has c = (λ told. inl (c.has.ensures.0 told), λ _. c.if-has.true)

pub returns-else-has : goal.returns-else-has
returns-else-has c = (
  λ told. inr (c.has-else-has.ensures.0 told),
  λ h. elim h [ inl own ↦ absurd (false≢true (sym c.if-has.false ∙ c.has.ensures.1 own)) | inr alias ↦ c.has-else-has.ensures.1 alias ],
)
