use Rattle.std.proofs.Common.{◌≡◌, ◌++◌, take}
use Rattle.command_text.specs.Addrs.{addrs_text}
use Rattle.command_text.proofs.addrs.push_addrs.Given as goal

abbrev pub invariant-loop-addr : goal.invariant-loop-addr
invariant-loop-addr l = l.out.items ≡ l.fn.out.items ++ addrs_text (take l.addr-index l.addrs)
