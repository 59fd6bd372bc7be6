use Rattle.std.proofs.Common.{◌≡◌, ◌++◌, flat_map, take}
use Rattle.command_text.specs.Text.{zone_line}
use Rattle.command_text.proofs.lists.push_zones.Given as goal

abbrev pub invariant-loop-zone : goal.invariant-loop-zone
invariant-loop-zone l = l.out.items ≡ l.fn.out.items ++ flat_map zone_line (take l.zone-index l.zones)
