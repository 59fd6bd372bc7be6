use Rattle.std.proofs.Common.{sym, ◌∙◌}
use Rattle.std.proofs.lemmas.Bool.{false≢true}
use Rattle.dns_text.proofs.SpelledLaws.{spell-spelled}
use Rattle.dns_text.proofs.strings.Strings.from_octets.Goals as goal

pub returns-else-spell_strings-clause-none : goal.returns-else-spell_strings-clause-none
returns-else-spell_strings-clause-none c = λ strings is. false≢true (sym c.if-spell_strings.false ∙ c.spell_strings.ensures.1 (spell-spelled strings _ is))
