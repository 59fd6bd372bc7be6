use Rattle.std.proofs.Common.{◌≡◌, ◌++◌, take}
use Rattle.std.specs.List.{flat_map}
use Rattle.dns_text.specs.String.{quoted_octet}
use Rattle.dns_text.proofs.string.push_quoted.Given as goal

abbrev pub invariant-loop-b : goal.invariant-loop-b
invariant-loop-b l = l.out.items ≡ l.initial.out.items ++ flat_map quoted_octet (take l.b-index l.octets)
