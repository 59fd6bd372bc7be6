use Rattle.std.specs.Prelude.{◌≡◌, ◌∷◌, map, take}
use Rattle.std.specs.List.{join_with_byte}
use Rattle.resolver_args.proofs.args.joined.Given as goal

abbrev pub invariant-loop-word : goal.invariant-loop-word
invariant-loop-word l = l.line.bytes.items ≡ join_with_byte 32 (l.fn.first ∷ map (λ word. word.now) (take l.word-index l.rest))
