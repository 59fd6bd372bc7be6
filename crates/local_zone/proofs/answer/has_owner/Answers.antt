use Rattle.std.proofs.Common.{nat_lt, ap, sym, ◌∙◌}
use Rattle.dns_name.specs.Order.{name_eq}
use Rattle.dns_text.specs.declared.record.Record.{Record}
use Rattle.local_zone.proofs.CountLaws.{any_some}
use Rattle.local_zone.proofs.answer.has_owner.Goals as goal

pub returns : goal.returns
returns c = ap (nat_lt 0) c.count_of.ensures ∙ sym (any_some (λ (r : Record). name_eq r.owner c.args.name.now) c.args.records.now)
