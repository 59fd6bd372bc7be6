use Rattle.std.proofs.Common.{◌≡◌, take}
use Rattle.history.proofs.lookup.share_zones.Given as goal

-- those so far
abbrev pub invariant-loop-zone : goal.invariant-loop-zone
invariant-loop-zone l = l.shared.items ≡ take l.zone-index l.zones
