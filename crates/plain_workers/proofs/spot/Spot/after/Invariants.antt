use Rattle.std.proofs.Common.{◌≡◌, take}
use Rattle.plain_workers.specs.Spots.{spot_after}
use Rattle.plain_workers.proofs.spot.Spot.after.Given as goal

-- the octets so far lead here
abbrev pub invariant-loop-octet : goal.invariant-loop-octet
invariant-loop-octet l = l.spot ≡ spot_after l.fn.self (take l.octet-index l.octets)
