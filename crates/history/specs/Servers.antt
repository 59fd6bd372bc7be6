-- The servers to ask about a name, by the stubs and by what the cache shows of each question.
use Rattle.std.specs.Prelude.{◌≡◌, ℕ, ◌==◌, Bool, not, ◌||◌, nat_lt, Option, Some, None, List, [], ◌∷◌, ◌++◌, length, filter, unwrap_or, if◌then◌else◌}
use Rattle.std.specs.List.{flat_map, list_any}
use Rattle.std.specs.Option.{option_map, option_or}
use Rattle.dns_name.specs.Labels.{Labels}
use Rattle.dns_name.specs.Closest.{closest_with}
use Rattle.dns_text.specs.declared.record.Question.{Question}
use Rattle.dns_text.specs.declared.addr.Addr.{Addr}
use Rattle.dns_text.specs.declared.record.Data.{Data}
use Rattle.dns_text.specs.declared.record.Data.TheVariants.{One}
use Rattle.dns_text.specs.declared.types.TheConstants as number
use Rattle.dns_name.specs.Below.{is_at_or_below}
use Rattle.ranked.specs.declared.find.Find.{Find}
use Rattle.ranked.specs.declared.cell.Shown.{Shown}
use Rattle.ranked.specs.Addrs.{addr_of}
use Rattle.ranked.specs.Body.{data_of}
use Rattle.stub_table.specs.declared.stub.Stub.{Stub}
use Rattle.stub_table.specs.Stubs.{Stubs}
use Rattle.stub_table.specs.Closest.{stub_named}
use Rattle.history.specs.declared.event.Event.{Event}
use Rattle.history.specs.declared.event.Settings.{Settings}
use Rattle.history.specs.declared.servers.Servers.{Servers}
use Rattle.history.specs.declared.servers.Origin.TheVariants as source
use Rattle.history.specs.History.{Past, past_of, stubs_of}
use Rattle.history.specs.Cells.{shows}

-- ---- what the cache has

-- the data that show: those of a set, of any rank; what denies has none
abbrev pub data_shown : Option (Shown Find) → List Data
data_shown None = []
data_shown (Some shown) = data_of shown.body.body

-- the data that are alive of a name and a type
abbrev pub data_at : (Question → Option (Shown Find)) → ℕ → Labels → List Data
data_at shown kind name = data_shown (shown (record { owner = name; kind = kind }))

-- the server that a datum of an NS set names
abbrev pub target_of : Data → List Labels
target_of (One name) = name ∷ []
target_of _ = []

-- the addresses of a server, those of IPv4 first
abbrev pub addrs_at : Settings → (Question → Option (Shown Find)) → Labels → List Addr
addrs_at settings shown name =
    flat_map (addr_of settings.server_port) (data_at shown number.A name) ++ flat_map (addr_of settings.server_port) (data_at shown number.AAAA name)

-- whether the cache has no address of a server
abbrev pub has_no_addr : Settings → (Question → Option (Shown Find)) → Labels → Bool
has_no_addr settings shown name = length (addrs_at settings shown name) == 0

-- those of these servers whose address the cache has not
abbrev pub without_addr : Settings → (Question → Option (Shown Find)) → List Labels → List Labels
without_addr settings shown targets = filter (has_no_addr settings shown) targets

-- A list of servers without an address got this server, if the cache has no address of it.
abbrev pub AddsMissing : Settings → (Question → Option (Shown Find)) → Labels → List Labels → List Labels → Type 0
AddsMissing settings shown target old new = new ≡ old ++ without_addr settings shown (target ∷ [])

-- the servers of these names, for a zone
abbrev pub servers_named : Settings → (Question → Option (Shown Find)) → Labels → List Labels → Servers
servers_named settings shown zone targets = record {
  zone = zone;
  source = source.Cache;
  addrs = flat_map (addrs_at settings shown) targets;
  missing = without_addr settings shown targets;
}

-- Of a zone's servers one has an address, or one is not at or below the zone, so that its address can be asked of other servers.
abbrev pub is_usable : Servers → List Labels → Bool
is_usable servers targets = nat_lt 0 (length servers.addrs) || list_any (λ target. not (is_at_or_below target servers.zone)) targets

-- these servers, if they are usable
abbrev pub if_usable : List Labels → Servers → Option Servers
if_usable targets servers = if is_usable servers targets then Some servers else None

-- what the NS set of this very name leads to, if that is usable
abbrev pub cached_servers : Settings → (Question → Option (Shown Find)) → Labels → Option Servers
cached_servers settings shown name =
    let targets = flat_map target_of (data_at shown number.NS name) in
    if_usable targets (servers_named settings shown name targets)

-- ---- the closest

-- the servers that a stub names
abbrev pub servers_in_stub : Labels → Stub → Servers
servers_in_stub name stub = record { zone = name; source = source.Stub; addrs = stub.addrs; missing = [] }

-- what this very name has: its stub, else what the cache has
abbrev pub servers_at : Settings → Stubs → (Question → Option (Shown Find)) → Labels → Option Servers
servers_at settings stubs shown name = option_or (option_map (servers_in_stub name) (stub_named stubs name)) (cached_servers settings shown name)

-- the root's servers, as the settings have them
abbrev pub servers_in_hints : Settings → Servers
servers_in_hints settings = record { zone = []; source = source.Hints; addrs = settings.hints; missing = [] }

-- The closest name at or above this one that has a stub or a usable NS set says which servers to ask, and the hints where none has.
abbrev pub servers_by : Settings → Stubs → (Question → Option (Shown Find)) → Labels → Servers
servers_by settings stubs shown name = unwrap_or (closest_with (servers_at settings stubs shown) name) (servers_in_hints settings)

-- the servers to ask at a moment, by the stubs of a history and by what its cells show then
abbrev pub servers_of : Settings → Past → Labels → ℕ → Servers
servers_of settings past name moment = servers_by settings (stubs_of past) (λ question. shows past question moment) name

-- the servers to ask about a name after a history
abbrev pub servers_after : Settings → List Event → Labels → ℕ → Servers
servers_after settings history name moment = servers_of settings (past_of settings.journal history) name moment
