use Rattle.replies.proofs.Framed.{broken_behind}
use Rattle.replies.proofs.framing.take_message.Goals as goal

pub returns-in-Err-clause-came : goal.returns-in-Err-clause-came
returns-in-Err-clause-came g c =
    let size = rw c.in-Some.is at c.in_ok-take_size.ensures.came in
    broken_behind c.in-Some.size c.in-Err.fault _ _ _ size.0 size.1 c.in-Err.ensures.came
