use Rattle.std.proofs.Common.{◌≡◌, ◌∙◌, [], Some, None, map, ap, subst, sym}
use Rattle.std.proofs.lemmas.Result.{IfErr-weaker, IfOk-weaker}
use Rattle.clap.proofs.WalkLemmas.{IfOk-both}
use Rattle.clap.specs.Faults.{fault_of, is_simple_and_free}
use Rattle.clap.specs.Kinds.{HasKind}
use Rattle.clap.specs.Simple.{App, app_of, subcommand_of}
use Rattle.resolver_args.specs.CommandLine.{resolver_app}
use Rattle.resolver_args.specs.Given.{rows_in}
use Rattle.resolver_args.proofs.Saying.{command_is, is_simple, no_command, refuses_bad, refuses_mode, refuses_usage, says}
use Rattle.resolver_args.proofs.args.read_args.Goals as goal

pub returns-in-Err-clause-refused : goal.returns-in-Err-clause-refused
returns-in-Err-clause-refused c =
    let words = map (λ w. w.now) c.args.words.now in
    let is : app_of c.in_ok-command.command ≡ resolver_app = c.in_ok-command.ensures in
    let kinds : HasKind (fault_of (app_of c.in_ok-command.command) words) c.in-Err.error = c.in-Err.ensures.kinds (ap is_simple_and_free is ∙ is_simple) in
    refuses_usage words c.usage.result c.in-Err.error (subst (λ (a : App). HasKind (fault_of a words) c.in-Err.error) is kinds) c.usage.ensures

pub returns-in-Some-clause-said : goal.returns-in-Some-clause-said
returns-in-Some-clause-said c =
    let words = map (λ w. w.now) c.args.words.now in
    let is : app_of c.in_ok-command.command ≡ resolver_app = c.in_ok-command.ensures in
    let taken : fault_of resolver_app words ≡ [] = sym (ap (λ (a : App). fault_of a words) is) ∙ c.in-Ok.ensures.kinds (ap is_simple_and_free is ∙ is_simple) in
    let command : subcommand_of resolver_app words ≡ Some (c.in-Some.name.now, rows_in c.in-Some.inner.now) =
    sym (c.in-Some.ensures ∙ command_is (app_of c.in_ok-command.command) words c.in-Ok.found is c.in-Ok.ensures.matches) in
    IfOk-weaker c.mode_in.result _ _ (λ mode h. says words c.in-Some.name.now (rows_in c.in-Some.inner.now) mode taken command h.0 h.1.0)
    (IfOk-both c.mode_in.result _ _ c.mode_in.ensures.given c.mode_in.ensures.in_range)

pub returns-in-Some-clause-refused : goal.returns-in-Some-clause-refused
returns-in-Some-clause-refused c =
    let words = map (λ w. w.now) c.args.words.now in
    let is : app_of c.in_ok-command.command ≡ resolver_app = c.in_ok-command.ensures in
    let taken : fault_of resolver_app words ≡ [] = sym (ap (λ (a : App). fault_of a words) is) ∙ c.in-Ok.ensures.kinds (ap is_simple_and_free is ∙ is_simple) in
    let command : subcommand_of resolver_app words ≡ Some (c.in-Some.name.now, rows_in c.in-Some.inner.now) =
    sym (c.in-Some.ensures ∙ command_is (app_of c.in_ok-command.command) words c.in-Ok.found is c.in-Ok.ensures.matches) in
    IfErr-weaker c.mode_in.result _ _ (λ fault why. refuses_mode words c.in-Some.name.now (rows_in c.in-Some.inner.now) taken command fault why) c.mode_in.ensures.fault

pub returns-clause-refused : goal.returns-clause-refused
returns-clause-refused c =
    let words = map (λ w. w.now) c.args.words.now in
    let is : app_of c.in_ok-command.command ≡ resolver_app = c.in_ok-command.ensures in
    let none : subcommand_of resolver_app words ≡ None =
    sym (c.in-None.ensures ∙ command_is (app_of c.in_ok-command.command) words c.in-Ok.found is c.in-Ok.ensures.matches) in
    refuses_bad words c.unfit.result c.unfit.ensures (no_command words none)
