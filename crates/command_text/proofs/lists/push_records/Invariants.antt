use Rattle.std.proofs.Common.{◌≡◌, ◌++◌, flat_map, take}
use Rattle.command_text.specs.Text.{record_line}
use Rattle.command_text.proofs.lists.push_records.Given as goal

abbrev pub invariant-loop-local : goal.invariant-loop-local
invariant-loop-local l = l.out.items ≡ l.fn.out.items ++ flat_map record_line (take l.local-index l.records)
