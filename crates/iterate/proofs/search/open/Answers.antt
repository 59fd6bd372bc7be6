use Rattle.std.proofs.Common.{refl}
use Rattle.iterate.proofs.Arriving.{was_unknown}
use Rattle.iterate.proofs.Opened.{opened_first}
use Rattle.iterate.proofs.Supplying.{opening}
use Rattle.iterate.proofs.search.open.Goals as goal

pub returns-clause-opened : goal.returns-clause-opened
returns-clause-opened c = opened_first c.args.search.frames.items _ c.args.target c.in_ok-hunt.hunt c.args.servers c.in_ok-insert.ensures.items c.in_ok-hunt.ensures

pub returns-clause-reached : goal.returns-clause-reached
returns-clause-reached c = λ port question log since k r.
    opening port question log c.args.search _ c.args.servers c.args.target c.in_ok-hunt.hunt refl refl c.in_ok-insert.ensures.items c.in_ok-hunt.ensures k.is_search k.shallow k.next k.early (was_unknown k.unknown) k.orderly k.other since r
