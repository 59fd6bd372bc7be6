use Rattle.std.proofs.Common.{List, Some, map, ap, sym, ◌∙◌}
use Rattle.dns_text.specs.declared.record.Record.{Record}
use Rattle.local_zone.specs.Show.{is_for, timed_as}
use Rattle.local_zone.proofs.OtherSetLaws.{before_other, before_same}
use Rattle.local_zone.proofs.own_records.set_before.Goals as goal

pub returns-then-is_for : goal.returns-then-is_for
returns-then-is_for c records goes is =
    let added = c.args.added.now in
    let owner = c.args.owner.now in
    let own = ap (λ (r : Record). is_for owner c.args.kind r) (sym c.get.ensures) ∙ sym c.is_for.ensures ∙ c.if-is_for.true in
    c.timed.ensures
    ∙ ap (λ (rs : List Record). map (timed_as (Some added.ttl)) rs) c.front_of.ensures
    ∙ before_same owner c.args.kind added records goes own c.args.own.now is

pub returns : goal.returns
returns c records goes is =
    let added = c.args.added.now in
    let owner = c.args.owner.now in
    let other = ap (λ (r : Record). is_for owner c.args.kind r) (sym c.get.ensures) ∙ sym c.is_for.ensures ∙ c.if-is_for.false in
    c.same.ensures ∙ is ∙ before_other owner c.args.kind added records goes other
