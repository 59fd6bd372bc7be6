-- The command line: subcommands and their options, as clap reads them.
use Rattle.std.specs.Prelude.{◌≡◌, ℕ, List, [], ◌∷◌, ◌++◌, Some, pos, true, false, codes, decimal, ◌^◌, ◌-◌}
use Rattle.clap.specs.Lexer.{usize_max}
use Rattle.clap.specs.Simple.{App, Shape, app_of, new_rule, new_shape, on_top}
use Rattle.clap.specs.Walk.{Rule, Text}
use Rattle.clap.specs.declared.builder.command.Command.TheViews.{out-Command as fields_of}
use Rattle.clap.specs.declared.builder.action.ArgAction.TheVariants.{Set, Append}
use Rattle.clap.specs.declared.builder.command.Command.{Command}
use Rattle.clap.specs.declared.builder.range.ValueRange.{ValueRange}
use Rattle.clap.specs.declared.builder.value_parser.ValueParser.TheVariants.{Signed}
use Rattle.shared_book.specs.declared.kept.TheConstants.{MOST_RECORDED}
use Rattle.history.specs.declared.limits.TheConstants.{MOST_CELLS, MOST_COMMANDS}
use Rattle.resolver_args.specs.declared.mode.TheConstants.{MOST_BACKLOG, MOST_WORKERS}
use Rattle.resolver_args.specs.declared.options.TheConstants.{DEFAULT_BACKLOG, DEFAULT_CELLS, DEFAULT_JOURNAL, DEFAULT_RECORD, DEFAULT_SECONDS}
use Rattle.resolver_args.specs.declared.options.TheConstants.{DEFAULT_SERVER_PORT, DEFAULT_WORKERS, MOST_PORT, MOST_SECONDS}

-- The option `--name VALUE`, once at most.
abbrev pub option_rule : Text → Rule
option_rule name = record (new_rule name) { long = Some name; action = Some Set; value_names = 1 }

-- An option with a number in this range.
abbrev pub number_rule : Text → ℕ → ℕ → Rule
number_rule name least most = record (option_rule name) { parser = Some (Signed (pos least) (pos most)) }

-- An option with a number from 1 on, and with a default.
abbrev pub count_rule : Text → Text → ℕ → Rule
count_rule name default most = record (number_rule name 1 most) { defaults = default ∷ [] }

-- An option that may be repeated, with one value each time.
abbrev pub repeated : Rule → Rule
repeated rule = record rule { action = Some Append }

-- An option or argument that must be there.
abbrev pub required : Rule → Rule
required rule = record rule { required = true }

-- Any number of words.
abbrev pub any_number : ValueRange
any_number = record { start_inclusive = 0; end_inclusive = usize_max }

-- An argument of any number of words.
abbrev pub words_rule : Text → Rule
words_rule name = record (new_rule name) {
  action = Some Append;
  range = Some any_number;
}

-- The options on the size of the cache and of the journal.
abbrev pub limit_rules : List Rule
limit_rules = count_rule (codes "journal") (decimal DEFAULT_JOURNAL) MOST_COMMANDS
    ∷ count_rule (codes "cells") (decimal DEFAULT_CELLS) MOST_CELLS ∷ []

-- The port of name servers, and the addresses of the root servers.
abbrev pub server_rules : List Rule
server_rules = count_rule (codes "server-port") (decimal DEFAULT_SERVER_PORT) MOST_PORT ∷ words_rule (codes "HINT") ∷ []

-- The addresses at which a service listens, and those that it queries only as those of stubs or hints.
abbrev pub address_rules : List Rule
address_rules = required (option_rule (codes "listen")) ∷ required (option_rule (codes "control"))
    ∷ repeated (option_rule (codes "do-not-query")) ∷ []

-- The file of a service's first lines.
abbrev pub file_rules : List Rule
file_rules = option_rule (codes "commands") ∷ []

-- The numbers of workers, and of the connections that wait for them.
abbrev pub worker_rules : List Rule
worker_rules = count_rule (codes "udp") (decimal DEFAULT_WORKERS) MOST_WORKERS
    ∷ count_rule (codes "tcp") (decimal DEFAULT_WORKERS) MOST_WORKERS
    ∷ count_rule (codes "backlog") (decimal DEFAULT_BACKLOG) MOST_BACKLOG ∷ []

-- The length of the call log, and the seed of the query IDs.
abbrev pub record_rules : List Rule
record_rules = count_rule (codes "record") (decimal DEFAULT_RECORD) MOST_RECORDED ∷ number_rule (codes "seed") 0 (2 ^ 32 - 1) ∷ []

-- The time that a client has patience with a service.
abbrev pub patience_rules : List Rule
patience_rules = count_rule (codes "seconds") (decimal DEFAULT_SECONDS) MOST_SECONDS ∷ []

-- An address and a line. Each word after the first of the line belongs to it, even if it begins with a hyphen.
abbrev pub line_rules : List Rule
line_rules = required (new_rule (codes "ADDR")) ∷ record (words_rule (codes "LINE")) { trailing_var_arg = true } ∷ []

-- The command with these options after its own. Subcommands get none of them.
pub record AddsRules (old : Command) (rules : List Rule) (new : Command) : Type 0 where
  pub app : app_of new ≡ on_top (λ s. record s { rules = s.rules ++ rules }) (app_of old)
  pub globals : (fields_of new).has_globals ≡ (fields_of old).has_globals

-- The subcommand `script`.
abbrev pub script_shape : Shape
script_shape = record (new_shape (codes "script")) { rules = limit_rules ++ server_rules }

-- The subcommand `serve`.
abbrev pub serve_shape : Shape
serve_shape = record (new_shape (codes "serve")) {
  rules = address_rules ++ (file_rules ++ (worker_rules ++ (limit_rules ++ (record_rules ++ server_rules))));
}

-- The subcommand `control`.
abbrev pub control_shape : Shape
control_shape = record (new_shape (codes "control")) { rules = patience_rules ++ line_rules }

-- The program: one of three subcommands, which must be there.
abbrev pub resolver_app : App
resolver_app = record {
  top = record (new_shape (codes "resolver")) { subcommand_required = true; is_leaf = false; has_version = true };
  subs = script_shape ∷ serve_shape ∷ control_shape ∷ [];
}
