-- The answer of a step whose reply is made twice.
use Rattle.std.specs.Prelude.{Result, Ok, Err}
use Rattle.history.specs.declared.event.Reply.{Reply}
use Rattle.history.specs.declared.book.StepFault.{StepFault}
use Rattle.shared_book.specs.declared.told.Told.{Told}

-- the answer that has the reply once
abbrev pub answer_told : Result Told StepFault → Result Reply StepFault
answer_told (Ok told) = Ok told.reply
answer_told (Err fault) = Err fault
