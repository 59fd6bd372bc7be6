use Rattle.std.proofs.Common.{◌≡◌, ◌∷◌, ap, ◌∙◌}
use Rattle.dns_name.specs.Labels.{octets_of}
use Rattle.local_zone.proofs.MaskLaws.{mask_last, mask_more, octets_above}
use Rattle.local_zone.proofs.mask.mask_of.Goals as goal

pub returns-in_default : goal.returns-in_default
returns-in_default c =
    mask_last c.loop-label.mask c.bits_of-mask.result c.tag_in.result c.loop-label.octets.now c.loop-label.labels c.bits_of-mask.ensures c.tag_in.ensures c.loop-label.invariant.0 c.in_default.ensures.steps.0
    ∙ c.loop-label.invariant.1

pub loop-label-preserved : goal.loop-label-preserved
loop-label-preserved c =
    let more : c.loop-label.labels ≡ c.in-Some.label.now ∷ c.next.new.self = c.in-Some.ensures.steps in (
      octets_above c.loop-label.octets.now c.in-Some.label.now c.next.new.self (c.loop-label.invariant.0 ∙ ap octets_of more),
      mask_more c.loop-label.mask c.bits_of-mask.result c.tag_in.result c.loop-label.octets.now c.loop-label.labels c.in-Some.label.now c.next.new.self c.bits_of-mask.ensures c.tag_in.ensures c.loop-label.invariant.0 more
          ∙ c.loop-label.invariant.1,
    )
