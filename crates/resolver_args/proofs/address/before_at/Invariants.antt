use Rattle.std.proofs.Common.{◌≡◌, ◌++◌, take, drop}
use Rattle.resolver_args.specs.Blame.{ip_part}
use Rattle.resolver_args.proofs.address.before_at.Given as goal

abbrev pub invariant-loop-i : goal.invariant-loop-i
invariant-loop-i l = take l.i l.word ++ ip_part (drop l.i l.word) ≡ ip_part l.word
