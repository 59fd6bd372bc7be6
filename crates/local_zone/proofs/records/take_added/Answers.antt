use Rattle.std.proofs.Common.{List, refl, ap, ◌∙◌}
use Rattle.dns_text.specs.declared.record.Record.{Record}
use Rattle.local_zone.specs.Change.{records_with}
use Rattle.local_zone.proofs.records.take_added.Goals as goal

pub returns-clause-turns : goal.returns-clause-turns
returns-clause-turns c = record {
  other = c.take_back.ensures.list;
  goes = tt;
  gives = ap (λ (rs : List Record). records_with c.args.added.said rs) c.take_back.ensures.list ∙ c.requires;
  turned = record { need = refl; need_after = refl; brings = refl; takes = refl };
}
