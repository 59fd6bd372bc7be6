use Rattle.std.proofs.Common.{rules, ◌≡◌, codes, false}
use Rattle.std.proofs.lemmas.Result.{IfOk-weaker}
use Rattle.clap.specs.Walk.{Rule, rule_of}
use Rattle.resolver_args.specs.CommandLine.{option_rule, repeated, required}
use Rattle.resolver_args.proofs.Adding.{three_added}
use Rattle.resolver_args.proofs.options.with_addresses.Goals as goal

abbrev listen : Rule
listen = required (option_rule (codes "listen"))

abbrev control : Rule
control = required (option_rule (codes "control"))

abbrev ranges : Rule
ranges = repeated (option_rule (codes "do-not-query"))

pub returns : goal.returns
returns c =
    let first : rule_of c.required-listen.result ≡ listen = search rules in
    let second : rule_of c.required-control.result ≡ control = search rules in
    let third : rule_of c.action-ranges.result ≡ ranges = search rules in
    let first_local : c.required-listen.result.global ≡ false = search rules in
    let second_local : c.required-control.result.global ≡ false = search rules in
    let third_local : c.action-ranges.result.global ≡ false = search rules in
    IfOk-weaker c.arg-3.result _ _ (λ new added.
    three_added c.args.command c.in_ok-arg.field-0 c.in_ok-arg-2.field-0 new c.required-listen.result c.required-control.result c.action-ranges.result listen control ranges
    c.in_ok-arg.ensures c.in_ok-arg-2.ensures added first_local second_local third_local first second third) c.arg-3.ensures
