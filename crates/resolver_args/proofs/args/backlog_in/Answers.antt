use Rattle.std.proofs.Common.{codes, rules}
use Rattle.std.specs.Prelude.{IfErr}
use Rattle.std.proofs.lemmas.Result.{IfErr-weaker}
use Rattle.resolver_args.specs.Given.{LacksNumber, rows_in}
use Rattle.resolver_args.specs.Says.{RefusedFor}
use Rattle.resolver_args.proofs.Giving.{for_reason, no_16_bits}
use Rattle.resolver_args.proofs.args.backlog_in.Goals as goal

pub returns-in_err-count_in-clause-fault : goal.returns-in_err-count_in-clause-fault
returns-in_err-count_in-clause-fault c =
    let of_32 : IfErr c.from_residual.result (RefusedFor (LacksNumber 32 (rows_in c.args.found.now) (codes "backlog"))) = search rules in
    IfErr-weaker c.from_residual.result _ _ (λ fault why. for_reason fault (no_16_bits (rows_in c.args.found.now) (codes "backlog")) why) of_32
