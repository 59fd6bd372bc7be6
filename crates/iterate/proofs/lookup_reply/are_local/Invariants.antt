use Rattle.std.proofs.Common.{take}
use Rattle.std.specs.List.{AllByRecursion}
use Rattle.iterate.specs.Shown.{IsLocalRecord}
use Rattle.iterate.proofs.lookup_reply.are_local.Given as goal

abbrev pub invariant-loop-r : goal.invariant-loop-r
invariant-loop-r l = AllByRecursion (IsLocalRecord (record { owner = l.owner; kind = l.kind })) (take l.r-index l.records)
