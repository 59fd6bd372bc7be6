use Rattle.std.specs.Prelude.{◌≡◌, map, take}
use Rattle.resolver_cli.proofs.texts_of.Given as goal

abbrev pub invariant-loop-word : goal.invariant-loop-word
invariant-loop-word l = map (λ text. text.now) l.texts.items ≡ map (λ word. word.bytes.items) (take l.word-index l.words)
