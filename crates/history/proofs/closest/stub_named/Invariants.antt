use Rattle.std.proofs.Common.{◌≡◌, drop}
use Rattle.stub_table.specs.Closest.{stub_named}
use Rattle.history.proofs.closest.stub_named.Given as goal

-- It is not among the stubs so far.
abbrev pub invariant-loop-stub : goal.invariant-loop-stub
invariant-loop-stub l = stub_named l.stubs l.name ≡ stub_named (drop l.stub-index l.stubs) l.name
