use Rattle.std.proofs.Common.{◌≡◌, ◌++◌, flat_map, take}
use Rattle.command_text.specs.Text.{buried_line}
use Rattle.command_text.proofs.journal.push_all_buried.Given as goal

abbrev pub invariant-loop-one : goal.invariant-loop-one
invariant-loop-one l = l.out.items ≡ l.fn.out.items ++ flat_map buried_line (take l.one-index l.buried)
