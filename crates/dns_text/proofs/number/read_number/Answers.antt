use Rattle.std.proofs.Common.{arith, sym, ◌∙◌}
use Rattle.dns_text.proofs.NumberLaws.{digits_in-some, number_in_none}
use Rattle.dns_text.proofs.number.read_number.Goals as goal

pub returns-in-empty-clause-value : goal.returns-in-empty-clause-value
returns-in-empty-clause-value c = sym (number_in_none c.args.most c.args.word.now (omega arith))

pub returns-in_default-clause-value : goal.returns-in_default-clause-value
returns-in_default-clause-value c = c.digits.ensures.value ∙ digits_in-some c.args.most c.args.word.now c.in_default.len_at_least
