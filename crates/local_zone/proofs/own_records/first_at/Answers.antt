use Rattle.std.proofs.Common.{Some, ap, ◌∙◌}
use Rattle.std.specs.Option.{option_map}
use Rattle.local_zone.proofs.OtherLaws.{first_none, first_some, first_there}
use Rattle.local_zone.proofs.own_records.first_at.Goals as goal

pub returns-in_err-gap : goal.returns-in_err-gap
returns-in_err-gap c = ap (λ r. option_map (λ name. name.now) r) c.from_residual.ensures ∙ first_none c.args.gaps.now c.args.records.now c.in_err-gap.ensures.value

pub bounds-records-gap : goal.bounds-records-gap
bounds-records-gap c = first_there c.args.gaps.now c.args.records.now c.in_ok-gap.gap.now c.requires c.in_ok-gap.ensures.value

pub returns : goal.returns
returns c =
    ap (λ o. Some o) c.owner.ensures
    ∙ first_some c.args.gaps.now c.args.records.now c.in_ok-gap.gap.now c.index-records-gap.result c.requires c.in_ok-gap.ensures.value c.index-records-gap.is
