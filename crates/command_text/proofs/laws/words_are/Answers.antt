use Rattle.command_text.proofs.WordList.{words-only, words-all}
use Rattle.command_text.proofs.laws.words_are.Goals as goal

pub returns-clause-only : goal.returns-clause-only
returns-clause-only c = words-only

pub returns-clause-some : goal.returns-clause-some
returns-clause-some c = words-all
