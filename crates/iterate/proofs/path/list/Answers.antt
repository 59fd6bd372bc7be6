use Rattle.iterate.proofs.PathTurns.{listing}
use Rattle.iterate.proofs.path.list.Goals as goal

pub returns : goal.returns
returns c = λ port ids question log p. listing port question log c.args.moment ids c.args.path c.in_ok-name.name c.in_ok-name.ensures p
