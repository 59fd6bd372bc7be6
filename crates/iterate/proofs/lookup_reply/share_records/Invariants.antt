use Rattle.std.proofs.Common.{◌≡◌, take}
use Rattle.iterate.proofs.lookup_reply.share_records.Given as goal

abbrev pub invariant-loop-r : goal.invariant-loop-r
invariant-loop-r l = l.shares.items ≡ take l.r-index l.records
