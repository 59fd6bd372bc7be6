use Rattle.std.proofs.Common.{ap, subst, ◌∙◌}
use Rattle.std.proofs.lemmas.List.{nil_from_length}
use Rattle.dns_name.specs.Labels.{labels_in}
use Rattle.dns_text.specs.Strings.{SpellStrings}
use Rattle.dns_text.proofs.SpelledLaws.{first, no_strings}
use Rattle.dns_text.proofs.strings.split_string.Goals as goal

pub split_at-requires : goal.split_at-requires
split_at-requires c = (first _ _ (subst (λ octets. SpellStrings octets) c.in_ok-n.ensures.cases.0 c.requires)).0

pub returns : goal.returns
returns c = rw (c.split_at.ensures.front, c.split_at.ensures.back, c.in_ok-n.ensures.cases.0) (first _ _ (subst (λ octets. SpellStrings octets) c.in_ok-n.ensures.cases.0 c.requires)).1

pub returns-in_err-n : goal.returns-in_err-n
returns-in_err-n c = rw c.from_residual.ensures (ap labels_in (nil_from_length _ c.in_err-n.ensures.cases) ∙ no_strings)
