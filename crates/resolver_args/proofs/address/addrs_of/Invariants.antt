use Rattle.std.specs.Prelude.{map, take}
use Rattle.resolver_args.specs.Given.{AreAddrs}
use Rattle.resolver_args.proofs.address.addrs_of.Given as goal

abbrev pub invariant-loop-word : goal.invariant-loop-word
invariant-loop-word l = AreAddrs (map (λ word. word.now) (take l.word-index l.words)) l.addrs.items
