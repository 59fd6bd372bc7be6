use Rattle.std.proofs.Common.{◌≡◌, ◌<◌, ◌≤◌, ◌↔◌, None, length, ◌-◌}
use Rattle.dns_name.specs.declared.limits.TheConstants.{MAX_NAME_OCTETS}
use Rattle.dns_name.specs.Labels.{Labels, spelled}
use Rattle.dns_wire.specs.declared.fault.WireFault.TheVariants.{Short}
use Rattle.dns_wire.specs.Server.Asking.{HasPointer}
use Rattle.dns_wire.proofs.Following.{Reads}
use Rattle.dns_wire.proofs.server.asking.whole_end.Given as goal

-- Labels were passed, which the code doesn't keep.
abbrev pub invariant-loop-n : goal.invariant-loop-n
invariant-loop-n l = record {
  labels : Labels;
  used : length (spelled labels) ≡ l.used;
  reads : Reads l.message l.message Short l.start labels l.message Short l.at l.start None;
  same : HasPointer l.message l.at ↔ HasPointer l.message l.start;
  few : l.used < MAX_NAME_OCTETS;
  within : l.at ≤ length l.message;
}

abbrev pub decreases-loop-n : goal.decreases-loop-n
decreases-loop-n l = length l.message - l.at
