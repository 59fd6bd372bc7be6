use Rattle.dns_text.proofs.WordLaws.{next_word-less}
use Rattle.dns_text.proofs.word.next_word.Goals as goal

pub returns-clause-less : goal.returns-clause-less
returns-clause-less c = next_word-less c.args.text.now c.first_word.result c.first_word.ensures
