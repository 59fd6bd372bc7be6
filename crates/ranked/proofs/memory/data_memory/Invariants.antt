use Rattle.std.proofs.Common.{◌≡◌, ◌-◌, ◌^◌, take}
use Rattle.std.specs.Prelude.{min}
use Rattle.std.specs.List.{sum_by}
use Rattle.ranked.specs.Memory.{datum_memory}
use Rattle.ranked.proofs.memory.data_memory.Given as goal

abbrev pub invariant-loop-datum : goal.invariant-loop-datum
invariant-loop-datum l = l.total ≡ min (sum_by datum_memory (take l.datum-index l.found)) (2 ^ 64 - 1)
