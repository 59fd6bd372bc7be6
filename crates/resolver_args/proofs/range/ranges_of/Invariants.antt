use Rattle.std.specs.Prelude.{map, take}
use Rattle.resolver_args.specs.Given.{AreRead}
use Rattle.resolver_args.specs.Ranges.{range_in}
use Rattle.resolver_args.proofs.range.ranges_of.Given as goal

abbrev pub invariant-loop-word : goal.invariant-loop-word
invariant-loop-word l = AreRead range_in (map (λ word. word.now) (take l.word-index l.words)) l.ranges.items
