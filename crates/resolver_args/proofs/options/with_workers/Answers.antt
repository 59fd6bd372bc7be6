use Rattle.std.proofs.Common.{rules, ◌≡◌, codes, false}
use Rattle.std.proofs.lemmas.Result.{IfOk-weaker}
use Rattle.std.specs.Fmt.{digits}
use Rattle.clap.specs.Walk.{Rule, rule_of}
use Rattle.resolver_args.specs.CommandLine.{count_rule}
use Rattle.resolver_args.specs.declared.mode.TheConstants.{MOST_BACKLOG, MOST_WORKERS}
use Rattle.resolver_args.proofs.Adding.{three_added}
use Rattle.resolver_args.proofs.options.with_workers.Goals as goal

abbrev udp : Rule
udp = count_rule (codes "udp") (codes "1") MOST_WORKERS

abbrev tcp : Rule
tcp = count_rule (codes "tcp") (codes "1") MOST_WORKERS

abbrev backlog : Rule
backlog = count_rule (codes "backlog") (codes "256") MOST_BACKLOG

pub returns : goal.returns
unfolding digits
returns c =
    let first : rule_of c.count-udp.result ≡ udp = search rules in
    let second : rule_of c.count-tcp.result ≡ tcp = search rules in
    let third : rule_of c.count-backlog.result ≡ backlog = search rules in
    let first_local : c.count-udp.result.global ≡ false = search rules in
    let second_local : c.count-tcp.result.global ≡ false = search rules in
    let third_local : c.count-backlog.result.global ≡ false = search rules in
    IfOk-weaker c.arg-3.result _ _ (λ new added.
    three_added c.args.command c.in_ok-arg.field-0 c.in_ok-arg-2.field-0 new c.count-udp.result c.count-tcp.result c.count-backlog.result udp tcp backlog
    c.in_ok-arg.ensures c.in_ok-arg-2.ensures added first_local second_local third_local first second third) c.arg-3.ensures
