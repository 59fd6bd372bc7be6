use Rattle.std.proofs.Common.{List, slice_get, ap, sym, ◌∙◌}
use Rattle.dns_text.specs.declared.record.Record.{Record}
use Rattle.dns_text.specs.declared.types.TheConstants.{SOA}
use Rattle.local_zone.specs.Show.{is_for}
use Rattle.local_zone.proofs.SetLaws.{find_first}
use Rattle.local_zone.proofs.answer.soa_at.Goals as goal

pub returns : goal.returns
returns c = c.first.ensures.value ∙ ap (λ (rs : List Record). slice_get rs 0) c.set_of.ensures ∙ sym (find_first (is_for c.args.name.now SOA) c.args.records.now)
