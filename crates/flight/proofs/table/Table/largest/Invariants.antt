use Rattle.std.proofs.Common.{◌≡◌, ◌<◌, ◌≤◌, ℕ, None}
use Rattle.std.specs.Prelude.{slice_index_or}
use Rattle.flight.specs.Bounds.{kept_of}
use Rattle.flight.proofs.table.Table.largest.Given as goal

-- Of those before this key none keeps more.
abbrev pub invariant-loop-key : goal.invariant-loop-key
invariant-loop-key g l = record {
  is : l.most ≡ kept_of (slice_index_or l.self.jobs.slots l.largest None);
  before : (other : ℕ) → other < l.key → kept_of (slice_index_or l.self.jobs.slots other None) ≤ l.most;
}
