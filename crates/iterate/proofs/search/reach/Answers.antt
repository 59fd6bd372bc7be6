use Rattle.std.proofs.Common.{refl}
use Rattle.iterate.proofs.Supplying.{reaching}
use Rattle.iterate.proofs.search.reach.Goals as goal

pub returns-clause-reached : goal.returns-clause-reached
returns-clause-reached c = λ port question log since p r.
    reaching port question log since c.args.path c.args.servers _ refl c.new.ensures.items c.in_ok-base.ensures p r
