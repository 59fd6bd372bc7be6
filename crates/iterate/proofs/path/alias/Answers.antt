use Rattle.std.proofs.Common.{arith}
use Rattle.std.proofs.lemmas.Result.{IfOk-weaker}
use Rattle.iterate.proofs.Falling.{few_is}
use Rattle.iterate.proofs.PathTurns.{less_left, looks_less}
use Rattle.iterate.proofs.path.alias.Goals as goal

pub returns-then-path-eq-CNAME : goal.returns-then-path-eq-CNAME
returns-then-path-eq-CNAME c = λ port id question log p.
    let less = looks_less c.args.path 2 3 (omega arith) (omega arith) in
    IfOk-weaker c.list.result _ _ (λ t g. less_left (few_is less) g) (c.list.ensures port id question log p)
