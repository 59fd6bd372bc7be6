use Rattle.std.proofs.Common.{◌≡◌, ◌++◌, codes, flat_map, take}
use Rattle.dns_text.specs.Data.{data_text}
use Rattle.command_text.proofs.answers.push_other_data.Given as goal

abbrev pub invariant-loop-other : goal.invariant-loop-other
invariant-loop-other l = l.out.items ≡ l.fn.out.items ++ flat_map (λ r. codes " | " ++ data_text r.body) (take l.other-index l.others)
