use Rattle.std.proofs.Common.{rules, ◌≡◌, codes, false}
use Rattle.std.proofs.lemmas.Result.{IfOk-weaker}
use Rattle.std.specs.Fmt.{digits}
use Rattle.clap.specs.Walk.{rule_of}
use Rattle.resolver_args.specs.CommandLine.{count_rule}
use Rattle.history.specs.declared.limits.TheConstants.{MOST_CELLS, MOST_COMMANDS}
use Rattle.resolver_args.proofs.Adding.{two_added}
use Rattle.resolver_args.proofs.options.with_limits.Goals as goal

pub returns : goal.returns
unfolding digits
returns c =
    let first : rule_of c.count-journal.result ≡ count_rule (codes "journal") (codes "64") MOST_COMMANDS = search rules in
    let second : rule_of c.count-cells.result ≡ count_rule (codes "cells") (codes "100000") MOST_CELLS = search rules in
    let first_local : c.count-journal.result.global ≡ false = search rules in
    let second_local : c.count-cells.result.global ≡ false = search rules in
    IfOk-weaker c.arg-2.result _ _ (λ new added.
    two_added c.args.command c.in_ok-arg.field-0 new c.count-journal.result c.count-cells.result (count_rule (codes "journal") (codes "64") MOST_COMMANDS) (count_rule (codes "cells") (codes "100000") MOST_CELLS)
    c.in_ok-arg.ensures added first_local second_local first second) c.arg-2.ensures
