use Rattle.std.proofs.Common.{refl}
use Rattle.shelf.proofs.EvenLaws.{by_all}
use Rattle.shelf.proofs.ends.end_all.Goals as goal

pub returns : goal.returns
returns c = by_all c.args.ends.now (record { moments = c.end_all.new.self; mixed = c.args.ends.now.mixed; left = c.args.ends.now.left; lasts = c.args.ends.now.lasts }) c.requires.flags (refl, refl) refl c.end_all.ensures refl
