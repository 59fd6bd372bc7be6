use Rattle.std.proofs.Common.{List, ap, sym, ◌∙◌}
use Rattle.dns_text.specs.declared.record.Record.{Record}
use Rattle.local_zone.specs.Show.{shown_as, unless_empty}
use Rattle.std.specs.Prelude.{map}
use Rattle.local_zone.proofs.AnswerLaws.{none_shown, set_shown}
use Rattle.local_zone.proofs.answer.data_of.Goals as goal

pub returns-then-is_empty : goal.returns-then-is_empty
returns-then-is_empty c =
    none_shown c.args.asked.now c.data_for-set.result.now (sym c.is_empty.ensures ∙ c.if-is_empty.true)
    ∙ ap (λ (rs : List Record). unless_empty (map (shown_as c.args.asked.now) rs)) c.data_for-set.ensures

pub returns : goal.returns
returns c =
    set_shown c.args.asked.now c.data_for-set.result.now (sym c.is_empty.ensures ∙ c.if-is_empty.false)
    ∙ ap (λ (rs : List Record). unless_empty (map (shown_as c.args.asked.now) rs)) c.data_for-set.ensures
