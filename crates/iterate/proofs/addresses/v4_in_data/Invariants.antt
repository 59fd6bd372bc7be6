use Rattle.std.proofs.Common.{◌≡◌, take}
use Rattle.iterate.specs.Hunting.{v4_in}
use Rattle.iterate.proofs.addresses.v4_in_data.Given as goal

abbrev pub invariant-loop-datum : goal.invariant-loop-datum
invariant-loop-datum l = l.addrs.items ≡ v4_in l.port (take l.datum-index l.given)
