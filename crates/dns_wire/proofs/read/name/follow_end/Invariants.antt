use Rattle.std.proofs.Common.{◌≡◌, ◌<◌, ◌≤◌, length, take, ◌+◌, ◌-◌, ◌*◌}
use Rattle.dns_name.specs.declared.limits.TheConstants.{MAX_NAME_OCTETS}
use Rattle.dns_name.specs.Labels.{Labels, spelled}
use Rattle.dns_wire.specs.declared.fault.WireFault.{WireFault}
use Rattle.dns_wire.proofs.Following.{Reads, ending_of}
use Rattle.dns_wire.proofs.read.name.follow_end.Given as goal

-- Labels were passed, which the code doesn't keep.
abbrev pub invariant-loop-n : goal.invariant-loop-n
invariant-loop-n l = record {
  labels : Labels;
  used : length (spelled labels) ≡ l.used;
  reads : (ending : WireFault) → Reads l.message (take l.limit l.message) ending l.start labels l.front (ending_of ending l.after) l.at l.run l.after;
  few : l.used < MAX_NAME_OCTETS;
  within : l.at ≤ length l.front;
  part : length l.front ≤ length l.message;
  behind : l.run ≤ l.at;
}

abbrev pub decreases-loop-n : goal.decreases-loop-n
decreases-loop-n l = l.run * (length l.message + 1) + (length l.message - l.at)
