use Rattle.std.proofs.Common.{◌≡◌, take}
use Rattle.std.specs.List.{flat_map}
use Rattle.history.specs.Servers.{target_of}
use Rattle.history.proofs.delegation.targets.Given as goal

-- those of the data so far
abbrev pub invariant-loop-datum : goal.invariant-loop-datum
invariant-loop-datum l = l.targets.items ≡ flat_map target_of (take l.datum-index l.set)
