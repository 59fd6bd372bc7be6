use Rattle.std.proofs.Common.{◌≡◌, ◌∙◌, ap, ap₂, codes, true}
use Rattle.std.proofs.lemmas.Result.{IfOk-weaker}
use Rattle.clap.specs.Simple.{App, app_of, app_of_fields, new_app, on_top, with_subcommand}
use Rattle.clap.specs.declared.builder.command.Command.{Command}
use Rattle.clap.specs.declared.builder.command.Command.TheOpen.{Command-F}
use Rattle.resolver_args.proofs.options.command.Goals as goal

abbrev wants_subcommand : App → App
wants_subcommand = on_top (λ s. record s { subcommand_required = true })

abbrev shows_version : App → App
shows_version = on_top (λ s. record s { has_version = true })

pub returns : goal.returns
returns c =
    let empty : app_of c.subcommand_required.result ≡ wants_subcommand (shows_version (new_app (codes "resolver"))) =
    ap app_of_fields c.subcommand_required.ensures
    ∙ (ap (λ (f : Command-F Command). wants_subcommand (app_of_fields f)) c.version.ensures
    ∙ (ap (λ (f : Command-F Command). wants_subcommand (shows_version (app_of_fields f))) c.in_ok-bin_name.ensures.0
    ∙ ap (λ (a : App). wants_subcommand (shows_version a)) c.new.ensures.app)) in
    let first = c.in_ok-subcommand.ensures.shape c.in_ok-script_command.ensures.local ∙ ap₂ with_subcommand empty c.in_ok-script_command.ensures.shape in
    let second = c.in_ok-subcommand-2.ensures.shape c.in_ok-serve_command.ensures.local ∙ ap₂ with_subcommand first c.in_ok-serve_command.ensures.shape in
    IfOk-weaker c.subcommand-3.result _ _ (λ command added.
    added.shape c.in_ok-control_command.ensures.local ∙ ap₂ with_subcommand second c.in_ok-control_command.ensures.shape) c.subcommand-3.ensures
