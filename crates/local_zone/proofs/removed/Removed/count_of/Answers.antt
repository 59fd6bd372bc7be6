use Rattle.std.proofs.Common.{List, length, ap, ◌∙◌}
use Rattle.local_zone.specs.Gaps.{records_of}
use Rattle.local_zone.specs.Index.{of_owner}
use Rattle.local_zone.specs.declared.taken.Taken.{Taken}
use Rattle.local_zone.proofs.removed.Removed.count_of.Goals as goal

pub returns : goal.returns
returns c =
    c.many_in.ensures (records_of c.self.inside.taken.items) c.self.invariant.0.0 ∙ ap (λ (ts : List Taken). length (of_owner c.args.owner.now (records_of ts))) c.self.view_is
