use Rattle.iterate.proofs.Supplying.{below_hearing}
use Rattle.iterate.proofs.search.refer_base.Goals as goal

pub returns-clause-reached : goal.returns-clause-reached
returns-clause-reached c = λ port question log since s r.
    let k = c.in_ok-after.ensures.reached port question log since (record { is_path = s.path; unknown = s.base.unknown }) r in
    record { is_search = k.is_search; orderly = k.orderly; falls = below_hearing c.args.search.path c.in_ok-after.after c.in_ok-after.ensures.path k.is_search }
