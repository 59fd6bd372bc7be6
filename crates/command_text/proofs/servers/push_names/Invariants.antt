use Rattle.std.proofs.Common.{◌≡◌, ◌++◌, take}
use Rattle.command_text.specs.Text.{names_text}
use Rattle.command_text.proofs.servers.push_names.Given as goal

abbrev pub invariant-loop-name : goal.invariant-loop-name
invariant-loop-name l = l.out.items ≡ l.fn.out.items ++ names_text (take l.name-index l.names)
