use Rattle.dns_text.specs.EqualLaws.{data_eq_exact, question_eq_exact, record_eq_exact, data_eq_itself, question_eq_itself, record_eq_itself}
use Rattle.dns_text.proofs.record.equality_law.Goals as goal

pub returns-clause-data_exact : goal.returns-clause-data_exact
returns-clause-data_exact c = data_eq_exact

pub returns-clause-questions_exact : goal.returns-clause-questions_exact
returns-clause-questions_exact c = question_eq_exact

pub returns-clause-records_exact : goal.returns-clause-records_exact
returns-clause-records_exact c = record_eq_exact

pub returns-clause-data_itself : goal.returns-clause-data_itself
returns-clause-data_itself c = data_eq_itself

pub returns-clause-question_itself : goal.returns-clause-question_itself
returns-clause-question_itself c = question_eq_itself

pub returns-clause-record_itself : goal.returns-clause-record_itself
returns-clause-record_itself c = record_eq_itself
