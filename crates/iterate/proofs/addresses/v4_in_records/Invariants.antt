use Rattle.std.proofs.Common.{◌≡◌, take}
use Rattle.std.specs.List.{flat_map}
use Rattle.iterate.specs.Hunting.{v4_of}
use Rattle.iterate.proofs.addresses.v4_in_records.Given as goal

abbrev pub invariant-loop-r : goal.invariant-loop-r
invariant-loop-r l = l.addrs.items ≡ flat_map (λ r. v4_of l.port r.body) (take l.r-index l.records)
