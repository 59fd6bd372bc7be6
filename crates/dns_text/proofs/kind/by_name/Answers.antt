use Rattle.std.proofs.Common.{sym, ◌∙◌}
use Rattle.dns_text.proofs.KindLaws.{by_name_other}
use Rattle.dns_text.proofs.kind.by_name.Goals as goal

pub loop-t-preserved : goal.loop-t-preserved
loop-t-preserved c = by_name_other (λ t. (t.number, t.name.now, t.form)) _ _ _ _ c.loop-t-test.true (sym c.is_named.ensures ∙ c.if-is_named.false) ∙ c.loop-t.invariant
