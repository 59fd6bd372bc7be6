use Rattle.iterate.proofs.Supplying.{supplying}
use Rattle.iterate.proofs.search.supply.Goals as goal

pub returns-clause-further : goal.returns-clause-further
returns-clause-further c = λ port question log target t serve.
    supplying port question log target c.args.search c.in_ok-after.after c.args.found.now c.in_ok-after.ensures.path c.in_ok-after.ensures.supplied t serve
