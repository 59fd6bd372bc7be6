use Rattle.std.proofs.Common.{◌≡◌, false, ap, sym, ◌∙◌}
use Rattle.dns_name.specs.Below.{is_at_or_below}
use Rattle.dns_text.specs.declared.record.Record.{Record}
use Rattle.local_zone.proofs.record.LocalRecord.is_at_or_below.Goals as goal

pub returns-else-may_cover : goal.returns-else-may_cover
returns-else-may_cover c =
    let other : is_at_or_below c.self.inside.said.owner c.args.name.now ≡ false = c.may_cover.ensures c.if-may_cover.false c.self.inside.said.owner c.self.invariant.1 in
    sym (ap (λ (r : Record). is_at_or_below r.owner c.args.name.now) (sym c.self.view_is) ∙ other)
