use Rattle.std.proofs.lemmas.Result.{IfOk-weaker}
use Rattle.std.proofs.Common.{◌≡◌, subst}
use Rattle.dns_name.specs.Labels.{Labels}
use Rattle.iterate.specs.Phase.{LooksAt}
use Rattle.iterate.specs.Told.{data_told}
use Rattle.iterate.proofs.PathTurns.{same_target}
use Rattle.iterate.proofs.path.alias_told.Goals as goal

pub returns-in-Some-clause-goes : goal.returns-in-Some-clause-goes
returns-in-Some-clause-goes c = λ port id question log p known.
    c.go_behind.ensures.goes port id question log p known (rw c.in-Some.is at c.in_ok-to.ensures)

pub returns-in-None-clause-goes : goal.returns-in-None-clause-goes
returns-in-None-clause-goes c = λ port id question log p known. c.list.ensures port id question log p

pub returns-in-Some-clause-looks : goal.returns-in-Some-clause-looks
returns-in-Some-clause-looks c = λ to target few.
    let same : c.in-Some.to ≡ to = same_target (data_told c.args.told) (rw c.in-Some.is at c.in_ok-to.ensures) target in
    IfOk-weaker c.go_behind.result _ _ (λ t looks. subst (λ (n : Labels). LooksAt c.args.path n c.args.moment t) same looks) (c.go_behind.ensures.looks few)

pub returns-in-None-clause-looks : goal.returns-in-None-clause-looks
returns-in-None-clause-looks c = λ to target few.
    let none = rw c.in-None.is at c.in_ok-to.ensures in
    absurd (none to target)
