use Rattle.std.proofs.Common.{rules, ◌≡◌, codes, false}
use Rattle.std.proofs.lemmas.Result.{IfOk-weaker}
use Rattle.clap.specs.Walk.{rule_of}
use Rattle.resolver_args.specs.CommandLine.{option_rule}
use Rattle.resolver_args.proofs.Adding.{one_added}
use Rattle.resolver_args.proofs.options.with_file.Goals as goal

pub returns : goal.returns
returns c =
    let is : rule_of c.option-file.result ≡ option_rule (codes "commands") = search rules in
    let local : c.option-file.result.global ≡ false = search rules in
    IfOk-weaker c.arg.result _ _ (λ new added. one_added c.args.command new c.option-file.result (option_rule (codes "commands")) added local is) c.arg.ensures
