use Rattle.std.proofs.Common.{List, length, ap, ◌∙◌}
use Rattle.dns_text.specs.declared.record.Record.{Record}
use Rattle.local_zone.specs.Index.{of_owner}
use Rattle.local_zone.proofs.record_list.RecordList.count_of.Goals as goal

pub returns : goal.returns
returns c = c.many_in.ensures c.self.inside.list.items c.self.invariant.0.0 ∙ ap (λ (rs : List Record). length (of_owner c.args.owner.now rs)) c.self.view_is
