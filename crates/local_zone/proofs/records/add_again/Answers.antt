use Rattle.std.proofs.Common.{refl, sym, ◌∙◌}
use Rattle.local_zone.specs.Change.{records_with}
use Rattle.local_zone.proofs.records.add_again.Goals as goal

pub returns-in-Ok-clause-turns : goal.returns-in-Ok-clause-turns
returns-in-Ok-clause-turns c = record {
  other = c.in-Ok.ensures.ok;
  goes = (λ i. records_with (c.in-Ok.ensures.said i) (c.in-Ok.ensures.saved i)) ∙ sym c.in-Ok.ensures.ok;
  gives = c.in-Ok.ensures.saved;
  turned = record { need = refl; need_after = refl; brings = refl; takes = refl };
}
