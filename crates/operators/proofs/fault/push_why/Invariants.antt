use Rattle.std.proofs.Common.{◌≡◌, ◌++◌, map, take, codes}
use Rattle.operators.specs.Fault.{shown}
use Rattle.operators.proofs.fault.push_why.Given as goal

abbrev pub invariant-loop-octet : goal.invariant-loop-octet
invariant-loop-octet l = l.lines.items ≡ l.fn.lines.items ++ codes "resolver: " ++ map shown (take l.octet-index l.why)
