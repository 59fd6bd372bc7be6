use Rattle.std.proofs.Common.{ap, sym, ◌∙◌}
use Rattle.dns_name.specs.Below.{is_at_or_below}
use Rattle.dns_name.specs.Labels.{Labels}
use Rattle.local_zone.proofs.MaskLaws.{other_mask}
use Rattle.local_zone.proofs.sought.Sought.may_cover.Goals as goal

pub returns : goal.returns
returns c lacks owner is =
    ap (λ (z : Labels). is_at_or_below owner z) (sym c.self.view_is) ∙ sym (other_mask owner c.self.inside.name.now c.args.mask c.self.inside.bits is c.self.invariant lacks)
