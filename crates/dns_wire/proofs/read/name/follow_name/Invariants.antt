use Rattle.std.proofs.Common.{◌≤◌, length, take, ◌+◌, ◌-◌, ◌*◌}
use Rattle.dns_wire.proofs.Following.{Reads}
use Rattle.dns_wire.proofs.read.name.follow_name.Given as goal

abbrev pub invariant-loop-labels : goal.invariant-loop-labels
invariant-loop-labels l = record {
  reads : Reads l.message (take l.limit l.message) l.fn.ending l.start l.labels l.front l.beyond l.at l.run l.after;
  within : l.at ≤ length l.front;
  part : length l.front ≤ length l.message;
  behind : l.run ≤ l.at;
}

abbrev pub decreases-loop-labels : goal.decreases-loop-labels
decreases-loop-labels l = l.run * (length l.message + 1) + (length l.message - l.at)
