use Rattle.std.proofs.Common.{◌∙◌, sym, append_assoc, ◌∷◌, []}
use Rattle.command_text.proofs.Bars.{no-bar, word-bar, word-more}
use Rattle.command_text.proofs.laws.bars_are.Goals as goal

pub returns-clause-none : goal.returns-clause-none
returns-clause-none c = no-bar

pub returns-clause-bar : goal.returns-clause-bar
returns-clause-bar c = λ text word after read bar. let b = word-bar text word after read bar in (b.0, b.1 ∙ sym (append_assoc b.0 (124 ∷ []) after), b.2)

pub returns-clause-word : goal.returns-clause-word
returns-clause-word c = λ text word after read other. let m = word-more text word after read other in (m.0, m.1, m.2)
