use Rattle.std.proofs.Common.{List, ap, ◌∙◌}
use Rattle.dns_text.specs.declared.record.Record.{Record}
use Rattle.local_zone.specs.Show.{data_for}
use Rattle.local_zone.proofs.record_list.RecordList.data_for.Goals as goal

pub returns : goal.returns
returns c = c.data_in.ensures c.self.inside.list.items c.self.invariant.0.0 ∙ ap (λ (rs : List Record). data_for c.args.owner.now c.args.kind rs) c.self.view_is
