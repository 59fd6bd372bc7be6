use Rattle.std.specs.Prelude.{Some, None}
use Rattle.std.proofs.Common.{refl}
use Rattle.outside.proofs.pauses.Pauses.note_answered.Goals as goal

pub returns-in_default : goal.returns-in_default
returns-in_default c = record { question = None; asked = tt; server = c.answer.ensures.remembers; ended = refl }

pub returns : goal.returns
returns c = record { question = Some c.in-Some.question; asked = c.in-Some.ensures; server = c.answer.ensures.remembers; ended = c.answer-2.ensures.updates }
