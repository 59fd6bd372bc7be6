use Rattle.operators.proofs.Accepting.{accepts_if}
use Rattle.operators.proofs.first_lines.obey_lines.Goals as goal

pub returns : goal.returns
returns g c = λ is. accepts_if (λ lines. lines.clock) _ _ _ _ _ _ _ _ _ c.run_lines.ensures.runs is
