use Rattle.std.proofs.Common.{◌%◌, ℕ, List, sym, ap, subst, refl}
use Rattle.dns_text.specs.declared.record.Question.{Question}
use Rattle.rand_core.specs.Stream.{Stream}
use Rattle.dns_query.specs.Query.{IsQuery}
use Rattle.iterate.specs.declared.want.Want.TheVariants.{Send}
use Rattle.iterate.proofs.Asking.{sending}
use Rattle.iterate.proofs.PathTurns.{turned}
use Rattle.iterate.proofs.sending.send.Goals as goal

pub returns-clause-goes : goal.returns-clause-goes
returns-clause-goes g c = λ port moment left question log rest s few next orderly goes less.
    let query = subst (λ (q : Question). IsQuery c.in_ok-bytes.bytes (c.next_u32.result % 65536) q) c.in_ok-question.ensures c.in_ok-bytes.ensures in
    turned refl (ap (λ (bytes : List ℕ). Send c.args.server c.args.over bytes) c.in_ok-new-2.ensures)
    (sending port question log moment _ left c.args.search c.args.server c.args.over c.in_ok-bytes.bytes rest s few next goes less orderly (c.next_u32.result % 65536)
    (ap (λ (p : ℕ × Stream). p.0 % 65536) (sym c.next_u32.ensures)) (ap (λ (p : ℕ × Stream). p.1) c.next_u32.ensures) query
    c.in_ok-new.field-0 c.in_ok-new.ensures.ok)

pub returns-clause-query : goal.returns-clause-query
returns-clause-query g c = (c.in_ok-bytes.bytes, ap (λ (bytes : List ℕ). Send c.args.server c.args.over bytes) c.in_ok-new-2.ensures)
