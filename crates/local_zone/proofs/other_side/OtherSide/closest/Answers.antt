use Rattle.std.proofs.Common.{ap, ◌∙◌}
use Rattle.local_zone.specs.Closest.{closest}
use Rattle.local_zone.specs.Tables.{Tables}
use Rattle.local_zone.proofs.other_side.OtherSide.closest.Goals as goal

pub closest_over-requires-clause-fits : goal.closest_over-requires-clause-fits
closest_over-requires-clause-fits c = c.self.invariant.back.fits

pub closest_over-requires-clause-sound : goal.closest_over-requires-clause-sound
closest_over-requires-clause-sound c = c.self.invariant.back.sound.names

pub returns : goal.returns
returns c = c.closest_over.ensures ∙ ap (λ (t : Tables). closest t.zones c.args.name.now) c.self.view_is
