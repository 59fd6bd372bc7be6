use Rattle.std.proofs.Common.{List, ap, ◌∙◌}
use Rattle.local_zone.specs.Gaps.{records_of}
use Rattle.local_zone.specs.Show.{set_of}
use Rattle.local_zone.specs.declared.taken.Taken.{Taken}
use Rattle.local_zone.proofs.removed.Removed.set_of.Goals as goal

pub returns : goal.returns
returns c =
    c.set_in.ensures (records_of c.self.inside.taken.items) c.self.invariant.0.0 ∙ ap (λ (ts : List Taken). set_of c.args.owner.now c.args.kind (records_of ts)) c.self.view_is
