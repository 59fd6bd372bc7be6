use Rattle.std.proofs.Common.{sym, ap}
use Rattle.dns_text.specs.declared.record.Question.{Question}
use Rattle.iterate.proofs.Supplying.{address_is}
use Rattle.iterate.proofs.search.asks_address.Goals as goal

pub returns-then-question-eq-A : goal.returns-then-question-eq-A
returns-then-question-eq-A c = (
  λ is. address_is c.args.question.now c.args.target.now (c.is_name.ensures.0 is) c.if-question-eq-A.true,
  λ same. c.is_name.ensures.1 (sym (ap (λ (q : Question). q.owner) same)),
)
