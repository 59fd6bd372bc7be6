-- What words say, from what clap makes of them.
use Rattle.std.proofs.Common.{◌≡◌, ◌≢◌, ◌∙◌, ◌⊎◌, inl, inr, ap, sym, refl, subst, codes, List, [], Option, Some, None, true}
use Rattle.clap.specs.Faults.{fault_of, is_simple_and_free}
use Rattle.clap.specs.Kinds.{HasKind, IsAmong}
use Rattle.clap.specs.Simple.{App, HasMatchesOf, is_simple as is_simple_app, subcommand_of, subcommand_rows_of}
use Rattle.clap.specs.Values.{kind_of}
use Rattle.clap.specs.Walk.{Row, Text}
use Rattle.clap.specs.declared.parser.matches.ArgMatches.{ArgMatches}
use Rattle.clap.proofs.OnLiterals.{clap_on_literals}
use Rattle.clap.specs.declared.error.Error.{Error}
use Rattle.clap.specs.declared.error.kind.ErrorKind.TheVariants.{OutOfMemory}
use Rattle.resolver_args.specs.CommandLine.{resolver_app}
use Rattle.resolver_args.specs.Mode.{HasNumbers}
use Rattle.resolver_args.specs.Says.{Gives, IsBad, IsUsage, LacksControl, LacksMode, Refuses, RefusesMode, Says}
use Rattle.resolver_args.specs.declared.fault.ArgsFault.{ArgsFault}
use Rattle.resolver_args.specs.declared.fault.ArgsFault.TheVariants.{NoMemory, Usage, BadArguments, NotLoopback}
use Rattle.resolver_args.specs.declared.mode.Mode.{Mode}
use Rattle.resolver_args.specs.declared.mode.Mode.TheVariants.{Script, Serve, Control}

-- clap's contracts say all of this command line
pub is_simple : is_simple_and_free resolver_app ≡ true
unfolding clap_on_literals
is_simple = refl

is_simple_line : is_simple_app resolver_app ≡ true
unfolding clap_on_literals
is_simple_line = refl

pub command_is : (app : App) (words : List Text) (found : ArgMatches) → app ≡ resolver_app → HasMatchesOf app words found
    → subcommand_rows_of found ≡ subcommand_of resolver_app words
command_is app words found is matches = (matches (ap is_simple_app is ∙ is_simple_line)).1 ∙ ap (λ (a : App). subcommand_of a words) is

pub no_control : (name : Text) (rows : List Row) → name ≡ codes "control" → LacksControl rows → LacksMode name rows
no_control name rows is lacks (Script settings) given fits = let e : codes "control" ≡ codes "script" = sym is ∙ given.0 in cc
no_control name rows is lacks (Serve service) given fits = let e : codes "control" ≡ codes "serve" = sym is ∙ given.0 in cc
no_control name rows is (inl lacks) (Control addr seconds line) given fits = lacks addr given.1.0
no_control name rows is (inr lacks) (Control addr seconds line) given fits = lacks seconds fits given.1.1.0

pub refuses_usage : (words : List Text) (fault : ArgsFault) (error : Error) → HasKind (fault_of resolver_app words) error
    → (fault ≡ NoMemory) ⊎ (IsUsage fault × (kind_of error ≢ OutOfMemory)) → Refuses words fault
refuses_usage words fault error kinds (inl is) = subst (Refuses words) (sym is) tt
refuses_usage words NoMemory error kinds (inr usage) = absurd usage.0
refuses_usage words (BadArguments _) error kinds (inr usage) = absurd usage.0
refuses_usage words NotLoopback error kinds (inr usage) = absurd usage.0
refuses_usage words (Usage text) error (inl memory) (inr usage) = absurd (usage.1 memory)
refuses_usage words (Usage text) error (inr among) (inr usage) = λ none. subst (IsAmong (kind_of error)) none among

-- An argument is bad, and there is no mode.
pub refuses_bad : (words : List Text) (fault : ArgsFault) → IsBad fault → ((mode : Mode) → Says words mode → ⊥) → Refuses words fault
refuses_bad words NoMemory bad none = absurd bad
refuses_bad words (Usage _) bad none = absurd bad
refuses_bad words (BadArguments _) bad none = none
refuses_bad words NotLoopback bad none = absurd bad

pub says : (words : List Text) (name : Text) (rows : List Row) (mode : Mode) → fault_of resolver_app words ≡ []
    → subcommand_of resolver_app words ≡ Some (name, rows) → Gives name rows mode → HasNumbers mode → Says words mode
says words name rows mode taken command given fits = record { taken = taken; given = ((name, rows), command, given); in_range = fits }

same_command : (a b : Text × List Row) (o : Option (Text × List Row)) → o ≡ Some a → o ≡ Some b → a ≡ b
same_command a b o first second = cc

pub refuses_mode : (words : List Text) (name : Text) (rows : List Row) → fault_of resolver_app words ≡ [] → subcommand_of resolver_app words ≡ Some (name, rows)
    → (fault : ArgsFault) → RefusesMode name rows fault → Refuses words fault
refuses_mode words name rows taken command fault (inl (inl is)) = subst (Refuses words) (sym is) tt
refuses_mode words name rows taken command fault (inl (inr why)) = refuses_bad words fault why.0 (λ mode said.
    let same : said.given.0 ≡ (name, rows) = same_command said.given.0 (name, rows) _ said.given.1 command in
    why.1 mode (subst (λ (p : Text × List Row). Gives p.0 p.1 mode) same said.given.2) said.in_range)
refuses_mode words name rows taken command fault (inr why) = subst (Refuses words) (sym why.0)
    (why.1.1.0, says words name rows (Serve why.1.1.0) taken command (why.1.0, why.1.1.1) why.1.1.2, why.1.1.3)

pub no_command : (words : List Text) → subcommand_of resolver_app words ≡ None → (mode : Mode) → Says words mode → ⊥
no_command words none mode said = let e : None ≡ Some said.given.0 = sym none ∙ said.given.1 in cc
