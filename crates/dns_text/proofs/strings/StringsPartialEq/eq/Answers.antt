use Rattle.std.proofs.Common.{◌∙◌}
use Rattle.std.specs.Prelude.{nat_eq}
use Rattle.std.specs.Cmp.Lexicographic.{pointwise}
use Rattle.dns_text.proofs.SpelledLaws.{spelled_eq}
use Rattle.dns_text.proofs.strings.StringsPartialEq.eq.Goals as goal

pub returns : goal.returns
returns c = c.eq.ensures ∙ (λ i. pointwise nat_eq (c.octets.ensures.value i) (c.octets-2.ensures.value i)) ∙ spelled_eq c.args.self.now c.args.other.now
