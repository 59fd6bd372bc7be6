use Rattle.std.proofs.Common.{refl}
use Rattle.outside.proofs.pauses.Pauses.note_closed.Goals as goal

pub returns : goal.returns
returns c = record { server = c.close.ensures.remembers; questions = refl }
