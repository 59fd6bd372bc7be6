-- Servers that are not asked, because of the list that named their address.
use Rattle.std.specs.Prelude.{◌≡◌, ◌≤◌, ◌⊎◌, Any, Option, Some, None, List}
use Rattle.dns_text.specs.declared.addr.Addr.{Addr}
use Rattle.history.specs.declared.servers.Origin.TheVariants.{Cache}
use Rattle.iterate.specs.declared.search.Hunt.{Hunt}
use Rattle.system.specs.declared.range.AddressRange.{AddressRange}
use Rattle.outside.specs.declared.withheld.TheConstants.{MOST_LISTED}
use Rattle.system.specs.Ranges.{IsInRange}

-- Strangers may have named the addresses of the list: it is of the cache, and of no stub and not the hints. An unknown list is taken for one of these.
abbrev pub IsOfStrangers : Option Hunt → Type 0
IsOfStrangers None = Unit {0}
IsOfStrangers (Some hunt) = hunt.servers.source ≡ Cache

-- As many addresses of the list were asked in vain as may be asked.
abbrev pub IsAskedUp : Option Hunt → Type 0
IsAskedUp None = ⊥
IsAskedUp (Some hunt) = MOST_LISTED ≤ hunt.asked

-- A server of the list is not asked: strangers may have named its address, and either too many of the list were asked in vain, or the address lies in one of the ranges.
abbrev pub IsWithheld : List AddressRange → Addr → Option Hunt → Type 0
IsWithheld ranges server hunt = IsOfStrangers hunt × (IsAskedUp hunt ⊎ Any (λ range. IsInRange range server.ip) ranges)
