use Rattle.std.proofs.Common.{◌≡◌, take}
use Rattle.history.proofs.lookup.share_records.Given as goal

-- those so far
abbrev pub invariant-loop-record : goal.invariant-loop-record
invariant-loop-record l = l.shared.items ≡ take l.record-index l.records
