use Rattle.std.proofs.Common.{◌≡◌, List, ℕ, None, length, refl, le-ltb}
use Rattle.streams.specs.declared.held_line.TheConstants.{LONGEST_LINE}
use Rattle.command_text.specs.declared.words.Channel.{Channel}
use Rattle.command_text.specs.declared.words.Channel.TheVariants.{Script, Control}
use Rattle.command_text.specs.Words.{by_word, verb_in}
use Rattle.command_text.specs.Line.{IsUnknown}
use Rattle.command_text.proofs.laws.channels_are_apart.Goals as goal

unknown : (channel : Channel) (word : List ℕ) → verb_in channel word ≡ None → IsUnknown channel word
unknown channel word none line rest short loud first = rw (le-ltb LONGEST_LINE (length line) short, loud, first, none) refl

pub returns-clause-control : goal.returns-clause-control
unfolding by_word
returns-clause-control c = (unknown Control _ refl, (unknown Control _ refl, (unknown Control _ refl, (unknown Control _ refl, (unknown Control _ refl, (unknown Control _ refl, tt))))))

pub returns-clause-script : goal.returns-clause-script
unfolding by_word
returns-clause-script c = (unknown Script _ refl, (unknown Script _ refl, (unknown Script _ refl, tt)))
