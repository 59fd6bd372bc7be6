use Rattle.std.proofs.Common.{inl}
use Rattle.std.proofs.lemmas.Result.{IfErr-weaker}
use Rattle.resolver_args.specs.Given.{rows_in}
use Rattle.resolver_args.proofs.Giving.{for_reason}
use Rattle.resolver_args.proofs.Saying.{no_control}
use Rattle.resolver_args.proofs.args.mode_in.Goals as goal

pub returns-in-control-clause-fault : goal.returns-in-control-clause-fault
returns-in-control-clause-fault c =
    IfErr-weaker c.control_in.result _ _
    (λ fault why. inl (for_reason fault (no_control c.args.name.now (rows_in c.args.found.now) c.in-control.is) why)) c.control_in.ensures.fault
