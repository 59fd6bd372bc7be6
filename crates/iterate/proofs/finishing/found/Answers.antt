use Rattle.iterate.proofs.PathTurns.{turned, telling}
use Rattle.iterate.proofs.finishing.found.Goals as goal

pub returns-clause-goes : goal.returns-clause-goes
returns-clause-goes c = λ port moment id left question log less p known.
    turned c.finished.ensures.phase c.finished.ensures.want (telling c.args.path c.args.told less p known)
