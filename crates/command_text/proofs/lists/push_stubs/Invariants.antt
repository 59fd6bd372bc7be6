use Rattle.std.proofs.Common.{◌≡◌, ◌++◌, flat_map, take}
use Rattle.command_text.specs.Text.{stub_line}
use Rattle.command_text.proofs.lists.push_stubs.Given as goal

abbrev pub invariant-loop-stub : goal.invariant-loop-stub
invariant-loop-stub l = l.out.items ≡ l.fn.out.items ++ flat_map stub_line (take l.stub-index l.stubs)
