use Rattle.std.proofs.Common.{◌≡◌, take}
use Rattle.history.proofs.lookup.share_stubs.Given as goal

-- those so far
abbrev pub invariant-loop-stub : goal.invariant-loop-stub
invariant-loop-stub l = l.shared.items ≡ take l.stub-index l.stubs
