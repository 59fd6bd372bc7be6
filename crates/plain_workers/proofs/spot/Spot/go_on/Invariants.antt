use Rattle.std.proofs.Common.{◌≡◌, ◌≢◌, ℕ, ◌<◌, ◌≤◌, ◌-◌, length, take}
use Rattle.plain_workers.specs.declared.spot.Spot.TheVariants.{Beginning}
use Rattle.plain_workers.specs.Spots.{spot_after}
use Rattle.plain_workers.proofs.spot.Spot.go_on.Given as goal

-- the octets so far lead here, and no message begins among them
abbrev pub invariant-loop-count : goal.invariant-loop-count
invariant-loop-count l = record {
  within : l.count ≤ length l.octets;
  spot : l.self ≡ spot_after l.fn.self (take l.count l.octets);
  one : (k : ℕ) → 0 < k → k ≤ l.count → spot_after l.fn.self (take k l.octets) ≢ Beginning;
}

abbrev pub decreases-loop-count : goal.decreases-loop-count
decreases-loop-count l = length l.octets - l.count
