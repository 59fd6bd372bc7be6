use Rattle.std.proofs.Common.{◌==◌, List, Some, length, map, ap, sym, ◌∙◌}
use Rattle.dns_text.specs.declared.record.Record.{Record}
use Rattle.local_zone.specs.Show.{data_for, shown_as}
use Rattle.local_zone.proofs.AnswerLaws.{none_shown, set_shown}
use Rattle.local_zone.proofs.answer_over.data_of.Goals as goal

pub returns-then-is_empty-clause-ok : goal.returns-then-is_empty-clause-ok
returns-then-is_empty-clause-ok c =
    let asked = c.args.asked.now in
    let none = ap (λ (rs : List Record). length rs == 0) (sym c.data_for-set.ensures) ∙ sym c.is_empty.ensures ∙ c.if-is_empty.true in
    none_shown asked.owner (data_for c.args.owner.now asked.kind c.args.side.now.records) none

pub returns-clause-ok : goal.returns-clause-ok
returns-clause-ok c =
    let asked = c.args.asked.now in
    let some = ap (λ (rs : List Record). length rs == 0) (sym c.data_for-set.ensures) ∙ sym c.is_empty.ensures ∙ c.if-is_empty.false in
    ap (λ (rs : List Record). Some rs) (c.in_ok-to_items.ensures ∙ ap (λ (rs : List Record). map (shown_as asked.owner) rs) c.data_for-set.ensures)
    ∙ set_shown asked.owner (data_for c.args.owner.now asked.kind c.args.side.now.records) some
