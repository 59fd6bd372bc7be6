use Rattle.shelf.proofs.AboutLaws.{admitted_more, flushed_more, none_admitted}
use Rattle.shelf.proofs.laws.admitted_law.Goals as goal

pub returns-clause-none : goal.returns-clause-none
returns-clause-none c = λ shelf is empty. none_admitted shelf is empty

pub returns-clause-kept : goal.returns-clause-kept
returns-clause-kept c = λ told old new keeps each pair has. each pair (keeps pair has)

pub returns-clause-admitted : goal.returns-clause-admitted
returns-clause-admitted c = λ told find moment old new is each. admitted_more told find moment old new is.pairs each

pub returns-clause-flushed : goal.returns-clause-flushed
returns-clause-flushed c = λ told flush number old new is each. flushed_more told flush number old new is.pairs each
