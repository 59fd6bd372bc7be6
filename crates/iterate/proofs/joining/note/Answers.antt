use Rattle.std.proofs.Common.{refl}
use Rattle.iterate.proofs.Joined.{note_v4, note_v6}
use Rattle.iterate.proofs.joining.note.Goals as goal

pub returns-in_ok-insert-in-V4-clause-adds : goal.returns-in_ok-insert-in-V4-clause-adds
returns-in_ok-insert-in-V4-clause-adds c = note_v4 c.args.seen.now _ c.args.addr.now c.in-V4.octets c.in-V4.is refl c.in_ok-insert-in-V4.ensures.updates

pub returns-in_ok-insert-in-V6-clause-adds : goal.returns-in_ok-insert-in-V6-clause-adds
returns-in_ok-insert-in-V6-clause-adds c = note_v6 c.args.seen.now _ c.args.addr.now c.in-V6.octets c.in-V6.is refl c.in_ok-insert-in-V6.ensures.updates
