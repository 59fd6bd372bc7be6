use Rattle.std.proofs.Common.{rules, ◌≡◌, codes, false}
use Rattle.std.proofs.lemmas.Result.{IfOk-weaker}
use Rattle.std.specs.Fmt.{digits}
use Rattle.clap.specs.Walk.{rule_of}
use Rattle.resolver_args.specs.CommandLine.{count_rule, words_rule}
use Rattle.resolver_args.specs.declared.options.TheConstants.{MOST_PORT}
use Rattle.resolver_args.proofs.Adding.{two_added, words_are}
use Rattle.resolver_args.proofs.options.with_servers.Goals as goal

pub returns : goal.returns
unfolding digits
returns c =
    let first : rule_of c.count-port.result ≡ count_rule (codes "server-port") (codes "53") MOST_PORT = search rules in
    let second : rule_of c.num_args-hints.result ≡ words_rule (codes "HINT") =
    words_are c.action.result c.num_args-hints.result (codes "HINT") (search rules) c.num_args-hints.ensures.0 c.num_args-hints.ensures.1 in
    let first_local : c.count-port.result.global ≡ false = search rules in
    let second_local : c.num_args-hints.result.global ≡ false = search rules in
    IfOk-weaker c.arg-2.result _ _ (λ new added.
    two_added c.args.command c.in_ok-arg.field-0 new c.count-port.result c.num_args-hints.result (count_rule (codes "server-port") (codes "53") MOST_PORT) (words_rule (codes "HINT"))
    c.in_ok-arg.ensures added first_local second_local first second) c.arg-2.ensures
