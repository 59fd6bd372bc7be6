use Rattle.std.proofs.Common.{List, not, length, ap, sym, ◌∙◌}
use Rattle.dns_text.specs.declared.record.Record.{Record}
use Rattle.local_zone.proofs.ReasonLaws.{full_for_record}
use Rattle.local_zone.proofs.records.has_no_room.Goals as goal

pub returns-then-as_slice-eq-MOST_RECORDS : goal.returns-then-as_slice-eq-MOST_RECORDS
returns-then-as_slice-eq-MOST_RECORDS c =
    ap not c.is_there.ensures ∙ full_for_record c.args.new.now c.args.records.now (ap (λ (rs : List Record). length rs) (sym c.as_slice.ensures) ∙ c.if-as_slice-eq-MOST_RECORDS.true)
