use Rattle.std.proofs.Common.{List, [], cond, true, false, ap, sym, ◌∙◌}
use Rattle.dns_text.specs.declared.record.Record.{Record}
use Rattle.local_zone.specs.Gaps.{rest_of}
use Rattle.local_zone.specs.Index.{of_owner}
use Rattle.local_zone.proofs.OtherSetLaws.{left_is, left_none, no_items}
use Rattle.local_zone.proofs.own_records.set_left.Goals as goal

pub returns-then-is_empty : goal.returns-then-is_empty
returns-then-is_empty c is =
    let none = no_items c.args.own.now (sym c.is_empty.ensures ∙ c.if-is_empty.true) in
    c.same.ensures ∙ none ∙ sym (left_none c.args.owner.now c.args.kind c.args.gaps.now c.args.records.now c.requires.within c.requires.apart (sym is ∙ none))

pub returns-then-is_taken : goal.returns-then-is_taken
returns-then-is_taken c is =
    let records : List Record = c.args.records.now in
    c.same-then-is_taken.ensures ∙ left_is c.args.owner.now c.args.kind true (rest_of c.args.gaps.now records) records
    (c.is_taken.ensures ∙ ap (λ b. cond b [] (of_owner c.args.owner.now records)) c.if-is_taken.true)

pub returns : goal.returns
returns c is =
    let records : List Record = c.args.records.now in
    c.same-2.ensures ∙ is ∙ left_is c.args.owner.now c.args.kind false (rest_of c.args.gaps.now records) records
    (c.is_taken.ensures ∙ ap (λ b. cond b [] (of_owner c.args.owner.now records)) c.if-is_taken.false)
