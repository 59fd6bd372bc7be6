use Rattle.std.proofs.Common.{inr, subst}
use Rattle.outside.specs.declared.server.ZoneAt.{ZoneAt}
use Rattle.outside.specs.Refusals.{RemembersZone, refused_pause}
use Rattle.outside.proofs.refusals.Refusals.note.Goals as goal

pub returns : goal.returns
returns c =
    inr (subst (λ (at : ZoneAt). RemembersZone c.args.now at (refused_pause c.args.now) c.args.self.now.zones c.pause.new.zones) c.in-Some.ensures c.pause.ensures.remembers)
