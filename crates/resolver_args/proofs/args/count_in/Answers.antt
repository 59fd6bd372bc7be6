use Rattle.std.proofs.Common.{rules}
use Rattle.std.specs.Prelude.{IfErr}
use Rattle.std.proofs.lemmas.Result.{IfErr-weaker}
use Rattle.resolver_args.specs.Given.{LacksOption, rows_in}
use Rattle.resolver_args.specs.Says.{RefusedFor}
use Rattle.resolver_args.proofs.Giving.{for_reason, no_number}
use Rattle.resolver_args.proofs.args.count_in.Goals as goal

pub returns-in_err-count-clause-fault : goal.returns-in_err-count-clause-fault
returns-in_err-count-clause-fault c =
    let told : IfErr c.from_residual.result (RefusedFor (LacksOption (rows_in c.args.found.now) c.args.name.now)) = search rules in
    IfErr-weaker c.from_residual.result _ _ (λ fault why. for_reason fault (no_number (rows_in c.args.found.now) c.args.name.now) why) told
