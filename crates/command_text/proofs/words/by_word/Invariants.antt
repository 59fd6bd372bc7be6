use Rattle.std.proofs.Common.{◌≡◌, drop, map}
use Rattle.command_text.specs.Words.{by_word, row_now, commands}
use Rattle.command_text.proofs.words.by_word.Given as goal

abbrev pub invariant-loop-usage : goal.invariant-loop-usage
invariant-loop-usage l = by_word l.word (map (λ usage. row_now usage) (drop l.usage-index l.usage-items)) ≡ by_word l.word commands
