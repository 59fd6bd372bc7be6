use Rattle.std.proofs.Common.{sym, ap, ◌∙◌}
use Rattle.dns_wire.specs.Lent.{set_records}
use Rattle.harvest.specs.declared.passing.PassingSet.{PassingSet}
use Rattle.iterate.specs.declared.answer.AnswerSet.{AnswerSet}
use Rattle.replies.specs.Lending.{records_written}
use Rattle.replies.specs.Sizing.{records_size}
use Rattle.replies.proofs.Sizes.{counted_as, set_counted}
use Rattle.replies.proofs.sizing.set_size.Goals as goal

pub returns-in-Passing : goal.returns-in-Passing
returns-in-Passing c =
    let first = c.args.first.now in
    let set = c.get-set.result.now in
    let written = ap (λ (some : AnswerSet). records_size first (records_written some)) c.in-Passing.is in
    let same = ap (λ (some : PassingSet). records_size first (set_records some.owner some.kind 0 some.data)) (sym c.get-set.ensures) in
    let counted = set_counted first set.owner set.kind 0 set.data in
    counted_as first set.owner c.owner_size-owner.result c.bodies_size.result (records_size first (records_written c.args.set.now)) c.as_slice.result.now set.data c.bodies_size.ensures c.owner_size-owner.ensures.exact c.as_slice.ensures (written ∙ (same ∙ counted))
