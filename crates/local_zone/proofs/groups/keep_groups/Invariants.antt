use Rattle.std.proofs.Common.{◌≡◌, ◌≤◌, ◌+◌, ◌++◌, [], List, None, length, take}
use Rattle.std.specs.List.{AllByRecursion}
use Rattle.indexmap.specs.IndexMap.{spare}
use Rattle.dns_name.specs.Labels.{Labels}
use Rattle.dns_text.specs.declared.record.Record.{Record}
use Rattle.local_zone.specs.Group.{group_of, AreGrouped, ShareNone}
use Rattle.local_zone.specs.Index.{of_owner}
use Rattle.local_zone.proofs.groups.keep_groups.Given as goal

abbrev pub invariant-loop-r : goal.invariant-loop-r
invariant-loop-r l = record {
  index : (records : List Record) → AreGrouped records (l.fn.kept.entries ++ l.fn.owners.entries) → AreGrouped records (l.kept.entries ++ l.owners.entries);
  gone : AllByRecursion (λ r. group_of r.owner l.owners.entries ≡ None) (take l.r-index l.left);
  only : (other : Labels) → of_owner other (take l.r-index l.left) ≡ [] → group_of other l.fn.kept.entries ≡ None → group_of other l.kept.entries ≡ None;
  room : length l.left ≤ spare l.kept + l.r-index;
  apart : ShareNone l.kept.entries l.owners.entries;
}
