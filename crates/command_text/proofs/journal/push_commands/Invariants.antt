use Rattle.std.proofs.Common.{◌≡◌, ◌++◌, flat_map, take}
use Rattle.command_text.specs.Text.{journalled_line}
use Rattle.command_text.proofs.journal.push_commands.Given as goal

abbrev pub invariant-loop-journalled : goal.invariant-loop-journalled
invariant-loop-journalled l = l.out.items ≡ l.fn.out.items ++ flat_map journalled_line (take l.journalled-index l.commands)
