-- The argument that is bad, and why.
use Rattle.std.specs.Prelude.{◌≡◌, ◌≢◌, ◌⊎◌, ◌<◌, ◌≤◌, ◌+◌, ◌==◌, ◌∷◌, ℕ, [], None, if◌then◌else◌}
use Rattle.clap.specs.Walk.{Text}
use Rattle.dns_text.specs.Addr.{addr_in}
use Rattle.history.specs.declared.limits.TheConstants.{MOST_HINTS}
use Rattle.resolver_args.specs.declared.fault.ArgsFault.{ArgsFault}
use Rattle.resolver_args.specs.declared.fault.ArgsFault.TheVariants.{BadArguments, NotLoopback}
use Rattle.resolver_args.specs.declared.fault.BadArgument.{BadArgument}
use Rattle.resolver_args.specs.declared.fault.BadArgument.TheVariants.{NotIp, NotPort, NotRange, NoHint, ManyHints, ManyWorkers, Unfit}
use Rattle.resolver_args.specs.declared.mode.Service.{Service}
use Rattle.resolver_args.specs.declared.mode.TheConstants.{MOST_WORKERS}
use Rattle.resolver_args.specs.Mode.{HasCounts, IsLoopback}

-- The part of a word before its first `@`.
abbrev pub ip_part : Text → Text
ip_part [] = []
ip_part (octet ∷ word) = if octet == 64 then [] else octet ∷ ip_part word

-- A word of this argument is no address, and this says why: its IP address or its port is bad.
abbrev pub IsNoAddr : Text → Text → BadArgument → Type 0
IsNoAddr name word (NotIp shown of) = (shown.now ≡ name) × ((of.bytes.items ≡ word) × (addr_in (ip_part word) ≡ None))
IsNoAddr name word (NotPort shown of) = (shown.now ≡ name) × ((of.bytes.items ≡ word) × (addr_in (ip_part word) ≢ None))
IsNoAddr name word _ = ⊥

-- The arguments are bad for this word.
abbrev pub BlamesWord : Text → Text → ArgsFault → Type 0
BlamesWord name word (BadArguments why) = IsNoAddr name word why
BlamesWord name word _ = ⊥

-- A word of this option is no range of addresses, and this names both.
abbrev pub IsNoRange : Text → Text → BadArgument → Type 0
IsNoRange name word (NotRange shown of) = (shown.now ≡ name) × (of.bytes.items ≡ word)
IsNoRange name word _ = ⊥

-- The arguments are bad for this word, which is no range.
abbrev pub BlamesRange : Text → Text → ArgsFault → Type 0
BlamesRange name word (BadArguments why) = IsNoRange name word why
BlamesRange name word _ = ⊥

-- Of settings with so many hints one does not fit: there are too many hints, or another number is out of its range.
abbrev pub BlamesHints : ℕ → BadArgument → Type 0
BlamesHints count (ManyHints hints) = (hints ≡ count) × (MOST_HINTS < count)
BlamesHints count (Unfit _) = count ≤ MOST_HINTS
BlamesHints count _ = ⊥

-- A number of a service does not fit: it has no hint, too many workers, or another number is out of its range.
abbrev pub BlamesCount : Service → BadArgument → Type 0
BlamesCount service NoHint = service.settings.hints ≡ []
BlamesCount service (ManyWorkers udp tcp) = (udp ≡ service.udp) × ((tcp ≡ service.tcp) × (MOST_WORKERS < udp + tcp))
BlamesCount service (Unfit _) = (service.settings.hints ≢ []) × (service.udp + service.tcp ≤ MOST_WORKERS)
BlamesCount service _ = ⊥

-- The arguments are bad for a number of this service.
abbrev pub BlamesService : Service → ArgsFault → Type 0
BlamesService service (BadArguments why) = BlamesCount service why
BlamesService service _ = ⊥

-- Why a service cannot run: a number of it does not fit, or all fit, but other machines could give it commands.
abbrev pub CannotRun : Service → ArgsFault → Type 0
CannotRun service fault = (BlamesService service fault × ¬ HasCounts service) ⊎ ((fault ≡ NotLoopback) × (HasCounts service × ¬ IsLoopback service.control.ip))
