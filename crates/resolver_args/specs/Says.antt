-- Command lines and the modes that they give.
use Rattle.std.specs.Prelude.{◌≡◌, ◌⊎◌, ◌<◌, ◌^◌, ℕ, List, [], ◌∷◌, Option, Some, String, codes, map, option_map}
use Rattle.clap.specs.Faults.{fault_of}
use Rattle.clap.specs.Simple.{subcommand_of}
use Rattle.clap.specs.Walk.{Row, Text}
use Rattle.dns_text.specs.Addr.{addr_in}
use Rattle.history.specs.Event.{AreSettings}
use Rattle.history.specs.declared.event.Settings.{Settings}
use Rattle.resolver_args.specs.CommandLine.{resolver_app}
use Rattle.resolver_args.specs.Given.{GivesAddr, GivesAddrs, GivesEach, GivesLine, GivesNumber, GivesText, LacksAddr, LacksNumber, MayGive}
use Rattle.resolver_args.specs.Mode.{HasNumbers, IsLoopback}
use Rattle.resolver_args.specs.Ranges.{range_in}
use Rattle.resolver_args.specs.declared.fault.ArgsFault.{ArgsFault}
use Rattle.resolver_args.specs.declared.fault.ArgsFault.TheVariants.{NoMemory, Usage, BadArguments, NotLoopback}
use Rattle.resolver_args.specs.declared.mode.Mode.{Mode}
use Rattle.resolver_args.specs.declared.mode.Mode.TheVariants.{Script, Serve, Control}
use Rattle.resolver_args.specs.declared.mode.Service.{Service}

-- The options and arguments have these settings.
pub record GivesSettings (rows : List Row) (settings : Settings) : Type 0 where
  pub journal : GivesNumber rows (codes "journal") settings.journal
  pub cells : GivesNumber rows (codes "cells") settings.cells
  pub hints : GivesAddrs rows (codes "HINT") settings.hints
  pub server_port : GivesNumber rows (codes "server-port") settings.server_port
  pub has_16_bits : settings.server_port < 2 ^ 16

-- The octets of a text that may be absent.
abbrev pub text_of : {Z : Type 0} → Option (String Z) → Option Text
text_of = option_map (λ line. line.bytes.items)

-- The options and arguments have the settings of this service.
pub record GivesService (rows : List Row) (service : Service) : Type 0 where
  pub settings : GivesSettings rows service.settings
  pub listen : GivesAddr rows (codes "listen") service.listen
  pub control : GivesAddr rows (codes "control") service.control
  pub udp : GivesNumber rows (codes "udp") service.udp
  pub tcp : GivesNumber rows (codes "tcp") service.tcp
  pub backlog : GivesNumber rows (codes "backlog") service.backlog
  pub record_limit : GivesNumber rows (codes "record") service.record_limit
  pub seed : MayGive rows (codes "seed") service.seed
  pub commands : GivesText rows (codes "commands") (text_of service.commands)
  pub do_not_query : GivesEach range_in rows (codes "do-not-query") service.do_not_query

-- The subcommand of this name, with these options and arguments, gives this mode.
abbrev pub Gives : Text → List Row → Mode → Type 0
Gives name rows (Script settings) = (name ≡ codes "script") × GivesSettings rows settings
Gives name rows (Serve service) = (name ≡ codes "serve") × GivesService rows service
Gives name rows (Control addr seconds line) = (name ≡ codes "control") × (GivesAddr rows (codes "ADDR") addr
    × (GivesNumber rows (codes "seconds") seconds × GivesLine rows (codes "LINE") (text_of line)))

-- Only this machine can give commands.
abbrev pub IsGuarded : Mode → Type 0
IsGuarded (Serve service) = IsLoopback service.control.ip
IsGuarded _ = Unit {0}

-- A command line gives this mode: clap accepts it, and its subcommand gives the mode. The first word is the program's own name.
pub record Says (words : List Text) (mode : Mode) : Type 0 where
  pub taken : fault_of resolver_app words ≡ []
  pub given : (command : Text × List Row) × (subcommand_of resolver_app words ≡ Some command) × Gives command.0 command.1 mode
  pub in_range : HasNumbers mode

-- Why a command line is rejected: clap rejects it, it gives no mode, or other machines could give commands.
abbrev pub Refuses : List Text → ArgsFault → Type 0
Refuses words NoMemory = Unit {0}
Refuses words (Usage _) = fault_of resolver_app words ≡ [] → ⊥
Refuses words (BadArguments _) = (mode : Mode) → Says words mode → ⊥
Refuses words NotLoopback = (service : Service) × Says words (Serve service) × (IsLoopback service.control.ip → ⊥)

-- The fault has lines of clap.
abbrev pub IsUsage : ArgsFault → Type 0
IsUsage (Usage _) = Unit {0}
IsUsage _ = ⊥

-- An argument is bad.
abbrev pub IsBad : ArgsFault → Type 0
IsBad (BadArguments _) = Unit {0}
IsBad _ = ⊥

-- There was no memory, or an argument is bad and this is so.
abbrev pub RefusedFor : Type 0 → ArgsFault → Type 0
RefusedFor reason fault = (fault ≡ NoMemory) ⊎ (IsBad fault × reason)

-- The options and arguments have no settings in range.
abbrev pub LacksSettings : List Row → Type 0
LacksSettings rows = (settings : Settings) → GivesSettings rows settings → AreSettings settings → ⊥

-- The options and arguments have no service in range.
abbrev pub LacksService : List Row → Type 0
LacksService rows = (service : Service) → GivesService rows service → HasNumbers (Serve service) → ⊥

-- The options and arguments have no address of a service, or no time to wait for it.
abbrev pub LacksControl : List Row → Type 0
LacksControl rows = LacksAddr rows (codes "ADDR") ⊎ LacksNumber 32 rows (codes "seconds")

-- The subcommand gives no mode in range.
abbrev pub LacksMode : Text → List Row → Type 0
LacksMode name rows = (mode : Mode) → Gives name rows mode → HasNumbers mode → ⊥

-- The options and arguments have a service that other machines could give commands.
abbrev pub GivesUnguarded : List Row → Type 0
GivesUnguarded rows = (service : Service) × GivesService rows service × HasNumbers (Serve service) × (IsLoopback service.control.ip → ⊥)

-- Why a service is rejected.
abbrev pub RefusesService : List Row → ArgsFault → Type 0
RefusesService rows fault = RefusedFor (LacksService rows) fault ⊎ ((fault ≡ NotLoopback) × GivesUnguarded rows)

-- Why a subcommand is rejected.
abbrev pub RefusesMode : Text → List Row → ArgsFault → Type 0
RefusesMode name rows fault = RefusedFor (LacksMode name rows) fault
    ⊎ ((fault ≡ NotLoopback) × ((name ≡ codes "serve") × GivesUnguarded rows))

-- `resolver script --journal COUNT HINT` sets the journal to the number that the count spells, and gives this one hint.
abbrev pub SetsJournalAndHint : Text → ℕ → Text → Type 0
SetsJournalAndHint count n hint =
    (settings : Settings) → Says (codes "resolver" ∷ codes "script" ∷ codes "--journal" ∷ count ∷ hint ∷ []) (Script settings) →
    (settings.journal ≡ n) × (map Some settings.hints ≡ addr_in hint ∷ [])
