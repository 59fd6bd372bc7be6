use Rattle.replies.proofs.Dearness.{quick_read}
use Rattle.replies.proofs.dear.is_dear.Goals as goal

pub returns-in-Ok-clause-quick : goal.returns-in-Ok-clause-quick
returns-in-Ok-clause-quick c = λ _ _. quick_read _ c.in-Ok.ensures
