use Rattle.std.proofs.Common.{rules, ◌≡◌, codes, false}
use Rattle.std.proofs.lemmas.Result.{IfOk-weaker}
use Rattle.std.specs.Fmt.{digits}
use Rattle.clap.specs.Walk.{rule_of}
use Rattle.resolver_args.specs.CommandLine.{count_rule}
use Rattle.resolver_args.specs.declared.options.TheConstants.{MOST_SECONDS}
use Rattle.resolver_args.proofs.Adding.{one_added}
use Rattle.resolver_args.proofs.options.with_patience.Goals as goal

pub returns : goal.returns
unfolding digits
returns c =
    let is : rule_of c.count-seconds.result ≡ count_rule (codes "seconds") (codes "10") MOST_SECONDS = search rules in
    let local : c.count-seconds.result.global ≡ false = search rules in
    IfOk-weaker c.arg.result _ _ (λ new added.
    one_added c.args.command new c.count-seconds.result (count_rule (codes "seconds") (codes "10") MOST_SECONDS) added local is) c.arg.ensures
