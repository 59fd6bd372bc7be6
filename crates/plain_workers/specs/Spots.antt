-- The places of a connection's octets, whose messages are each preceded by a length in two octets (RFC 1035, section 4.2.2).
use Rattle.std.specs.Prelude.{◌≢◌, ℕ, ◌+◌, ◌-◌, ◌*◌, ◌<◌, ◌==◌, List, length, take, fold, if◌then◌else◌}
use Rattle.plain_workers.specs.declared.spot.Spot.{Spot}
use Rattle.plain_workers.specs.declared.spot.Spot.TheVariants.{Beginning, Length, Inside}

-- the place if so many octets of a message are left
abbrev pub spot_inside : ℕ → Spot
spot_inside left = if left == 0 then Beginning else Inside left

-- the place of the next octet, after this one
abbrev pub spot_behind : Spot → ℕ → Spot
spot_behind Beginning octet = Length octet
spot_behind (Length first) octet = spot_inside (first * 256 + octet)
spot_behind (Inside left) octet = spot_inside (left - 1)

-- the place of the next octet, after all of these
abbrev pub spot_after : Spot → List ℕ → Spot
spot_after spot octets = fold spot_behind spot octets

-- No message begins after the first of these octets and before their end.
abbrev pub IsOfOneMessage : Spot → List ℕ → Type 0
IsOfOneMessage spot octets = (k : ℕ) → 0 < k → k < length octets → spot_after spot (take k octets) ≢ Beginning
