use Rattle.std.proofs.Common.{◌≡◌, ◌++◌, codes, flat_map, take}
use Rattle.dns_text.specs.Data.{data_text}
use Rattle.command_text.proofs.text.push_others.Given as goal

abbrev pub invariant-loop-datum : goal.invariant-loop-datum
invariant-loop-datum l = l.out.items ≡ l.fn.out.items ++ flat_map (λ datum. codes " | " ++ data_text datum) (take l.datum-index l.others)
