-- The zones that servers refused lately. Times are in milliseconds.
use Rattle.std.specs.Prelude.{◌≡◌, ◌<◌, ◌⊎◌, ◌+◌, ◌-◌, ◌%◌, ◌^◌, ℕ, Bool, min, Option, Some, None, IfSome, IsSomeAnd, List, slice_index}
use Rattle.cell_store.specs.declared.seed.NameSeed.{NameSeed}
use Rattle.indexmap.specs.IndexMap.{IndexMap, get}
use Rattle.dns_name.specs.Labels.{Labels}
use Rattle.dns_text.specs.declared.addr.Addr.{Addr}
use Rattle.dns_query.specs.declared.over.Over.{Over}
use Rattle.outside.specs.Withheld.{IsWithheld}
use Rattle.system.specs.declared.range.AddressRange.{AddressRange}
use Rattle.history.specs.declared.servers.Origin.{Origin}
use Rattle.history.specs.declared.servers.Origin.TheVariants.{Cache}
use Rattle.history.specs.declared.servers.Servers.{Servers}
use Rattle.iterate.specs.declared.search.Hunt.{Hunt}
use Rattle.flight.specs.declared.sockets.Listened.{Listened}
use Rattle.flight.specs.declared.sockets.Listened.TheVariants.{Came}
use Rattle.outside.specs.contracts.server.ZoneAtPartialEq.TheImpl as zone_at_impl
use Rattle.outside.specs.declared.pause.Pause.{Pause}
use Rattle.outside.specs.declared.refusals.Refusals.{Refusals}
use Rattle.outside.specs.declared.refused_zones.TheConstants.{MOST_REFUSALS, REFUSED, REFUSED_PAUSE}
use Rattle.outside.specs.declared.server.ZoneAt.{ZoneAt}
use Rattle.outside.specs.Kept.{Remembers}
use Rattle.outside.specs.Pauses.{server_at}

-- The response refuses its question: its RCODE, the low four bits of its fourth octet, is 5 (RFC 1035, section 4.1.1).
abbrev pub IsRefusal : List ℕ → Type 0
IsRefusal response = slice_index response 3 % 16 ≡ REFUSED

-- whether `==` calls two zones at servers equal
abbrev pub zone_at_eq : ZoneAt → ZoneAt → Bool
zone_at_eq = zone_at_impl.ghosts.eq

-- the zone at the server at an address, over a transport
abbrev pub zone_at : Addr → Over → Labels → ZoneAt
zone_at addr over zone = record { server = server_at addr over; zone = zone }

-- the pauses of zones at servers
abbrev pub ZonePauses : Type 0
ZonePauses = IndexMap ZoneAt Pause NameSeed

-- the pause of a zone that is refused at this moment
abbrev pub refused_pause : ℕ → Pause
refused_pause now = record { millis = REFUSED_PAUSE; until = min (now + REFUSED_PAUSE) (2 ^ 64 - 1) }

-- A server is not asked about a zone.
abbrev pub IsZonePaused : ZoneAt → ℕ → ZonePauses → Type 0
IsZonePaused zone now zones = IsSomeAnd (get zone_at_eq zones zone) (λ pause. now < pause.until)

-- The pause of a zone at a server is this one from now on.
abbrev pub RemembersZone : ℕ → ZoneAt → Pause → ZonePauses → ZonePauses → Type 0
RemembersZone now = Remembers zone_at_eq (λ (pause : Pause). pause.until) MOST_REFUSALS now

-- The server refused the zone less than a second ago.
abbrev pub IsRefused : Addr → Over → Labels → ℕ → Refusals → Type 0
IsRefused addr over zone now refusals = IsZonePaused (zone_at addr over zone) now refusals.zones

-- The server did not, or there was no memory to look the zone up.
abbrev pub LooksUpZone : Addr → Over → Labels → ℕ → Refusals → Type 0
LooksUpZone addr over zone now refusals =
    (key : Option ZoneAt) × IfSome key (λ at. (at ≡ zone_at addr over zone) × ¬ (IsZonePaused at now refusals.zones))

-- The server refused the zone now. If there is no memory for the zone's name, that is not remembered.
abbrev pub NotesRefusal : Addr → Over → Labels → ℕ → Refusals → Refusals → Type 0
NotesRefusal addr over zone now old new =
    (new ≡ old) ⊎ RemembersZone now (zone_at addr over zone) (refused_pause now) old.zones new.zones

-- the list, if it is of the cache or of a response, so that strangers may have named its addresses
abbrev pub unless_own : Origin → Servers → Option Servers
unless_own Cache servers = Some servers
unless_own origin servers = None

-- the list of a task, if strangers may have named its addresses
abbrev pub list_of_strangers : Option Hunt → Option Servers
list_of_strangers None = None
list_of_strangers (Some hunt) = unless_own hunt.servers.source hunt.servers

-- The server refused the zone of this list less than a second ago.
abbrev pub RefusedList : Addr → Over → Option Servers → ℕ → Refusals → Type 0
RefusedList addr over None now refusals = ⊥
RefusedList addr over (Some list) now refusals = IsRefused addr over list.zone now refusals

-- The server did not, or there was no memory to look the zone up.
abbrev pub LooksUpList : Addr → Over → Option Servers → ℕ → Refusals → Type 0
LooksUpList addr over None now refusals = Unit {0}
LooksUpList addr over (Some list) now refusals = LooksUpZone addr over list.zone now refusals

-- A server of a list is not asked: it is withheld, or it refused the zone of the list less than a second ago.
abbrev pub IsLeftAlone : List AddressRange → Addr → Over → Option Hunt → ℕ → Refusals → Type 0
IsLeftAlone ranges server over hunt now refusals = IsWithheld ranges server hunt ⊎ RefusedList server over (list_of_strangers hunt) now refusals

-- An exchange about a zone was listened to. If a refusal came, the server refused the zone, and else nothing changed. Without a zone nothing is noted.
abbrev pub NotesAnswer : Listened → Addr → Over → Option Labels → ℕ → Refusals → Refusals → Type 0
NotesAnswer (Came octets) addr over (Some zone) now old new =
    (IsRefusal octets × NotesRefusal addr over zone now old new) ⊎ (¬ (IsRefusal octets) × (new ≡ old))
NotesAnswer heard addr over _ now old new = new ≡ old
