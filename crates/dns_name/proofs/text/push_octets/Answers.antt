use Rattle.std.proofs.Common.{sym, ◌∙◌}
use Rattle.std.proofs.lemmas.Grind.{common_steps}
use Rattle.std.proofs.Common.{arith}
use Rattle.dns_name.proofs.PlainLaws.{plain_text}
use Rattle.dns_name.proofs.text.push_octets.Goals as goal

pub returns-then-is_plain_label : goal.returns-then-is_plain_label
returns-then-is_plain_label c = rw (plain_text c.args.label.now (sym c.is_plain_label.ensures ∙ c.if-is_plain_label.true)) (grind (arith, common_steps))
