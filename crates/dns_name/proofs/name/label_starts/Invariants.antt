use Rattle.std.proofs.Common.{◌≡◌, ◌+◌, ◌≤◌, ◌++◌, length}
use Rattle.dns_name.specs.Labels.{IsOctets, labels_in}
use Rattle.dns_name.specs.Building.{starts_from}
use Rattle.dns_name.proofs.name.label_starts.Given as goal

abbrev pub invariant-loop-label : goal.invariant-loop-label
invariant-loop-label l = record {
  octets : IsOctets l.rest;
  told : l.starts.items ++ starts_from l.at (labels_in l.rest) ≡ starts_from 0 (labels_in l.octets);
  place : l.at + length l.rest ≡ length l.octets;
  few : length l.starts.items + length l.starts.items ≤ l.at;
}

abbrev pub decreases-loop-label : goal.decreases-loop-label
decreases-loop-label l = length l.rest
