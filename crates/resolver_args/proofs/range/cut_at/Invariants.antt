use Rattle.std.proofs.Common.{◌≡◌, ◌++◌, take, drop}
use Rattle.std.specs.Prelude.{option_map}
use Rattle.dns_text.specs.Word.{cut_at}
use Rattle.resolver_args.proofs.range.cut_at.Given as goal

abbrev pub invariant-loop-i : goal.invariant-loop-i
invariant-loop-i l = option_map (λ r. (take l.i l.text ++ r.0, r.1)) (cut_at l.octet (drop l.i l.text)) ≡ cut_at l.octet l.text
