use Rattle.std.proofs.Common.{sym, ap, ◌∙◌}
use Rattle.dns_name.specs.Labels.{Labels}
use Rattle.neg_rule.specs.Alias.{next_name}
use Rattle.neg_rule.proofs.AliasLaws.{after_none, after_more}
use Rattle.neg_rule.proofs.alias.name_after.Goals as goal

pub loop-init : goal.loop-init
loop-init c = sym (after_none c.args.answer.now c.args.owner.now)

pub loop-preserved : goal.loop-preserved
loop-preserved c =
    c.next_name-name.ensures ∙ ap (λ (x : Labels). next_name c.args.answer.now x) c.loop.invariant ∙ sym (after_more c.args.answer.now c.args.owner.now c.loop.counter)
