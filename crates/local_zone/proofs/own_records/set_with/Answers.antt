use Rattle.std.proofs.Common.{List, [], ◌∷◌, ◌++◌, Some, map, ap, sym, ◌∙◌}
use Rattle.dns_text.specs.declared.record.Record.{Record}
use Rattle.local_zone.specs.Change.{is_there}
use Rattle.local_zone.specs.Show.{is_for, timed_as}
use Rattle.local_zone.proofs.OtherSetLaws.{with_new, with_other, with_there}
use Rattle.local_zone.proofs.own_records.set_with.Goals as goal

pub returns-then-is_among : goal.returns-then-is_among
returns-then-is_among c records is =
    let new : Record = c.args.new.now in
    let own = ap (λ (r : Record). is_for c.args.owner.now c.args.kind r) (sym c.get-said.ensures) ∙ sym c.is_for.ensures ∙ c.if-is_for.true in
    let there = ap (λ (rs : List Record). is_there rs new) (sym is) ∙ ap (λ (r : Record). is_there c.args.own.now r) (sym c.get-said.ensures) ∙ sym c.is_among.ensures ∙ c.if-is_among.true in
    c.timed.ensures
    ∙ ap (λ (r : Record). map (timed_as (Some r.ttl)) c.args.own.now) c.get-said.ensures
    ∙ ap (λ (rs : List Record). map (timed_as (Some new.ttl)) rs) is
    ∙ with_there c.args.owner.now c.args.kind new records own there

pub returns-then-is_for : goal.returns-then-is_for
returns-then-is_for c records is =
    let new : Record = c.args.new.now in
    let own = ap (λ (r : Record). is_for c.args.owner.now c.args.kind r) (sym c.get-said.ensures) ∙ sym c.is_for.ensures ∙ c.if-is_for.true in
    let absent = ap (λ (rs : List Record). is_there rs new) (sym is) ∙ ap (λ (r : Record). is_there c.args.own.now r) (sym c.get-said.ensures) ∙ sym c.is_among.ensures ∙ c.if-is_among.false in
    c.with.ensures
    ∙ ap (λ (rs : List Record). map (timed_as (Some new.ttl)) rs ++ new ∷ []) is
    ∙ with_new c.args.owner.now c.args.kind new records own absent

pub returns : goal.returns
returns c records is =
    let other = ap (λ (r : Record). is_for c.args.owner.now c.args.kind r) (sym c.get-said.ensures) ∙ sym c.is_for.ensures ∙ c.if-is_for.false in
    c.same.ensures ∙ is ∙ with_other c.args.owner.now c.args.kind c.args.new.now records other
