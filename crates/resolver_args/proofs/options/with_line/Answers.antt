use Rattle.std.proofs.Common.{rules, ◌≡◌, ◌∙◌, ap, codes, false, true}
use Rattle.std.proofs.lemmas.Result.{IfOk-weaker}
use Rattle.clap.specs.Walk.{Rule, rule_of}
use Rattle.clap.specs.Simple.{new_rule}
use Rattle.clap.specs.declared.builder.arg.Arg.{Arg}
use Rattle.resolver_args.specs.CommandLine.{required, words_rule}
use Rattle.resolver_args.proofs.Adding.{two_added, words_are}
use Rattle.resolver_args.proofs.options.with_line.Goals as goal

abbrev line_rule : Rule
line_rule = record (words_rule (codes "LINE")) { trailing_var_arg = true }

pub returns : goal.returns
returns c =
    let first : rule_of c.required-addr.result ≡ required (new_rule (codes "ADDR")) = search rules in
    let words : rule_of c.num_args.result ≡ words_rule (codes "LINE") =
    words_are c.action.result c.num_args.result (codes "LINE") (search rules) c.num_args.ensures.0 c.num_args.ensures.1 in
    let second : rule_of c.trailing_var_arg-line.result ≡ line_rule =
    ap rule_of c.trailing_var_arg-line.ensures ∙ ap (λ (rule : Rule). record rule { trailing_var_arg = true }) words in
    let first_local : c.required-addr.result.global ≡ false = search rules in
    let second_local : c.trailing_var_arg-line.result.global ≡ false =
    ap (λ (a : Arg). a.global) c.trailing_var_arg-line.ensures ∙ (ap (λ (a : Arg). a.global) c.num_args.ensures.0 ∙ search rules) in
    IfOk-weaker c.arg-2.result _ _ (λ new added.
    two_added c.args.command c.in_ok-arg.field-0 new c.required-addr.result c.trailing_var_arg-line.result (required (new_rule (codes "ADDR"))) line_rule
    c.in_ok-arg.ensures added first_local second_local first second) c.arg-2.ensures
