-- Settings, the ranges of the numbers of a mode, and loopback addresses.
use Rattle.std.specs.Prelude.{◌≡◌, ◌≤◌, ◌<◌, ◌+◌, ◌^◌, ℕ, List, [], ◌∷◌, length, slice_index}
use Rattle.dns_text.specs.declared.addr.Addr.{Addr}
use Rattle.dns_text.specs.declared.addr.Ip.{Ip}
use Rattle.dns_text.specs.declared.addr.Ip.TheVariants.{V4, V6}
use Rattle.history.specs.Event.{AreSettings}
use Rattle.history.specs.declared.event.Settings.{Settings}
use Rattle.shared_book.specs.declared.kept.TheConstants.{MOST_RECORDED}
use Rattle.resolver_args.specs.declared.mode.Mode.{Mode}
use Rattle.resolver_args.specs.declared.mode.Mode.TheVariants.{Script, Serve, Control}
use Rattle.resolver_args.specs.declared.mode.Service.{Service}
use Rattle.resolver_args.specs.declared.mode.TheConstants.{MOST_BACKLOG, MOST_WORKERS}
use Rattle.resolver_args.specs.declared.options.TheConstants.{DEFAULT_CELLS, DEFAULT_JOURNAL, DEFAULT_SERVER_PORT}

-- 127.0.0.0/8 or ::1: only this machine can send to it.
abbrev pub IsLoopback : Ip → Type 0
IsLoopback (V4 octets) = slice_index octets 0 ≡ 127
IsLoopback (V6 octets) = octets ≡ 0 ∷ 0 ∷ 0 ∷ 0 ∷ 0 ∷ 0 ∷ 0 ∷ 0 ∷ 0 ∷ 0 ∷ 0 ∷ 0 ∷ 0 ∷ 0 ∷ 0 ∷ 1 ∷ []

-- There is a root server, there are UDP and TCP workers but not too many, connections may wait for them, and the call log has a length.
pub record HasCounts (service : Service) : Type 0 where
  pub some_hints : 1 ≤ length service.settings.hints
  pub some_udp : 1 ≤ service.udp
  pub some_tcp : 1 ≤ service.tcp
  pub few_workers : service.udp + service.tcp ≤ MOST_WORKERS
  pub some_waiting : 1 ≤ service.backlog
  pub few_waiting : service.backlog ≤ MOST_BACKLOG
  pub some_recorded : 1 ≤ service.record_limit
  pub few_recorded : service.record_limit ≤ MOST_RECORDED

-- Each number of a mode is in its range. clap has checked the range of the seconds.
abbrev pub HasNumbers : Mode → Type 0
HasNumbers (Script settings) = AreSettings settings
HasNumbers (Serve service) = AreSettings service.settings × HasCounts service
HasNumbers (Control _ seconds _) = seconds < 2 ^ 32

-- A service that can run, and that only this machine can give commands.
abbrev pub IsService : Service → Type 0
IsService service = AreSettings service.settings × (HasCounts service × IsLoopback service.control.ip)

-- the settings with these numbers and these root servers
abbrev pub settings_with : ℕ → ℕ → List Addr → ℕ → Settings
settings_with journal cells hints server_port = record { journal = journal; cells = cells; hints = hints; server_port = server_port }

-- the settings of a command line that gives none
abbrev pub default_settings : Settings
default_settings = record { journal = DEFAULT_JOURNAL; cells = DEFAULT_CELLS; hints = []; server_port = DEFAULT_SERVER_PORT }
