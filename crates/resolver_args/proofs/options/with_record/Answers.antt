use Rattle.std.proofs.Common.{rules, ◌≡◌, codes, false}
use Rattle.std.proofs.lemmas.Result.{IfOk-weaker}
use Rattle.std.specs.Fmt.{digits}
use Rattle.clap.specs.Walk.{rule_of}
use Rattle.resolver_args.specs.CommandLine.{count_rule, number_rule}
use Rattle.shared_book.specs.declared.kept.TheConstants.{MOST_RECORDED}
use Rattle.resolver_args.proofs.Adding.{two_added}
use Rattle.resolver_args.proofs.options.with_record.Goals as goal

pub returns : goal.returns
unfolding digits
returns c =
    let first : rule_of c.count-record.result ≡ count_rule (codes "record") (codes "10000") MOST_RECORDED = search rules in
    let second : rule_of c.number-seed.result ≡ number_rule (codes "seed") 0 4294967295 = search rules in
    let first_local : c.count-record.result.global ≡ false = search rules in
    let second_local : c.number-seed.result.global ≡ false = search rules in
    IfOk-weaker c.arg-2.result _ _ (λ new added.
    two_added c.args.command c.in_ok-arg.field-0 new c.count-record.result c.number-seed.result (count_rule (codes "record") (codes "10000") MOST_RECORDED) (number_rule (codes "seed") 0 4294967295)
    c.in_ok-arg.ensures added first_local second_local first second) c.arg-2.ensures
