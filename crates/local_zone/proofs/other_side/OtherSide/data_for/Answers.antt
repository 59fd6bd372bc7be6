use Rattle.std.proofs.Common.{◌==◌, List, length, ap, sym, ◌∙◌}
use Rattle.dns_text.specs.declared.record.Record.{Record}
use Rattle.dns_text.specs.declared.types.TheConstants.{CNAME}
use Rattle.local_zone.specs.Show.{set_of}
use Rattle.local_zone.proofs.AnswerOverLaws.{or_first, or_other}
use Rattle.local_zone.proofs.other_side.OtherSide.data_for.Goals as goal

pub returns-then-is_empty : goal.returns-then-is_empty
returns-then-is_empty c =
    let records : List Record = c.args.self.now.records in
    let owner = c.args.owner.now in
    let none = ap (λ (rs : List Record). length rs == 0) (sym c.set_of-aliases.ensures) ∙ sym c.is_empty.ensures ∙ c.if-is_empty.true in
    c.set_of.ensures ∙ or_other (set_of owner CNAME records) (set_of owner c.args.kind records) none

pub returns : goal.returns
returns c =
    let records : List Record = c.args.self.now.records in
    let owner = c.args.owner.now in
    let some = ap (λ (rs : List Record). length rs == 0) (sym c.set_of-aliases.ensures) ∙ sym c.is_empty.ensures ∙ c.if-is_empty.false in
    c.set_of-aliases.ensures ∙ or_first (set_of owner CNAME records) (set_of owner c.args.kind records) some
