use Rattle.streams.proofs.Lines.{lines-only, lines-some}
use Rattle.streams.proofs.laws.lines_are.Goals as goal

pub returns-clause-only : goal.returns-clause-only
returns-clause-only c = lines-only

pub returns-clause-some : goal.returns-clause-some
returns-clause-some c = lines-some
