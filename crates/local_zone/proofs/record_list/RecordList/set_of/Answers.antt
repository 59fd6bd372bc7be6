use Rattle.std.proofs.Common.{List, ap, ◌∙◌}
use Rattle.dns_text.specs.declared.record.Record.{Record}
use Rattle.local_zone.specs.Show.{set_of}
use Rattle.local_zone.proofs.record_list.RecordList.set_of.Goals as goal

pub returns : goal.returns
returns c = c.set_in.ensures c.self.inside.list.items c.self.invariant.0.0 ∙ ap (λ (rs : List Record). set_of c.args.owner.now c.args.kind rs) c.self.view_is
