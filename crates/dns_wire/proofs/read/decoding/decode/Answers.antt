use Rattle.std.proofs.Common.{arith}
use Rattle.dns_name.specs.ListLaws.{octets_all}
use Rattle.dns_wire.proofs.Ranges.{answer_well_formed, answer_forms}
use Rattle.dns_wire.proofs.MessageLaws.{answer_spelled, answer_fault, answer_read, answer_unspelled, answer_trailing}
use Rattle.dns_wire.proofs.read.decoding.decode.Goals as goal

pub returns-clause-spelled : goal.returns-clause-spelled
returns-clause-spelled c = answer_spelled c.args.octets.now _ c.message_of.ensures

pub returns-clause-fault : goal.returns-clause-fault
returns-clause-fault c = answer_fault c.args.octets.now _ c.message_of.ensures

pub returns-clause-read : goal.returns-clause-read
returns-clause-read c = λ v h. answer_read c.args.octets.now _ c.message_of.ensures v h

pub returns-clause-unspelled : goal.returns-clause-unspelled
returns-clause-unspelled c = answer_unspelled c.args.octets.now _ c.message_of.ensures

pub returns-clause-trailing : goal.returns-clause-trailing
returns-clause-trailing c = λ h. answer_trailing c.args.octets.now _ c.message_of.ensures h

pub returns-clause-well_formed : goal.returns-clause-well_formed
returns-clause-well_formed c =
    let m = c.args.octets.now in
    answer_well_formed m _ (octets_all m (λ i. omega (arith, c.type_inv.octets i))) (answer_spelled m _ c.message_of.ensures)

pub returns-clause-forms : goal.returns-clause-forms
returns-clause-forms c =
    let m = c.args.octets.now in
    answer_forms _ (answer_well_formed m _ (octets_all m (λ i. omega (arith, c.type_inv.octets i))) (answer_spelled m _ c.message_of.ensures))
