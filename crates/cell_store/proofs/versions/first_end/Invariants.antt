use Rattle.std.proofs.Common.{◌≡◌, take}
use Rattle.cell_store.specs.Ends.{first_end}
use Rattle.cell_store.proofs.versions.first_end.Given as goal

-- the end by the entries so far
abbrev pub invariant-loop-entry : goal.invariant-loop-entry
invariant-loop-entry l = l.end ≡ first_end (take l.entry-index l.versions)
