use Rattle.std.proofs.Common.{◌≡◌, ◌++◌, take}
use Rattle.std.specs.List.{flat_map}
use Rattle.ranked.specs.Addrs.{addr_of}
use Rattle.ranked.proofs.addrs.push_addrs.Given as goal

-- those of the data so far
abbrev pub invariant-loop-datum : goal.invariant-loop-datum
invariant-loop-datum l = l.out.items ≡ l.initial.out.items ++ flat_map (addr_of l.port) (take l.datum-index l.set)
