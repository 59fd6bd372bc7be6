-- A set of addresses beside a list of them. (Of the code.)
use Rattle.std.specs.Prelude.{◌≡◌, ◌↔◌, ◌⊎◌, ℕ, Bool, true, List, length, take}
use Rattle.std.specs.BTreeSet.{contains}
use Rattle.std.specs.Cmp.Lexicographic.{slice_cmp}
use Rattle.std.specs.List.{Contains}
use Rattle.std.specs.Ordering.{nat_cmp, ordering_then}
use Rattle.std.specs.declared.cmp.Ordering.{Ordering}
use Rattle.dns_text.specs.declared.addr.Addr.{Addr}
use Rattle.dns_text.specs.declared.addr.Ip.{Ip}
use Rattle.dns_text.specs.declared.addr.Ip.TheVariants.{V4, V6}
use Rattle.iterate.specs.declared.joining.AddrSet.{AddrSet}
use Rattle.iterate.specs.Searching.{AreDistinct}

-- the order of ports with octets
abbrev pub port_cmp : ℕ × List ℕ → ℕ × List ℕ → Ordering
port_cmp a b = ordering_then (nat_cmp a.0 b.0) (slice_cmp nat_cmp a.1 b.1)

-- whether the set has this address at this port
abbrev pub has_ip : AddrSet → ℕ → Ip → Bool
has_ip seen port (V4 octets) = contains port_cmp seen.v4 (port, octets)
has_ip seen port (V6 octets) = contains port_cmp seen.v6 (port, octets)

-- whether the set has this address with its port
abbrev pub has_addr : AddrSet → Addr → Bool
has_addr seen addr = has_ip seen addr.port addr.ip

-- The set has just these addresses.
abbrev pub AreAmong : AddrSet → List Addr → Type 0
AreAmong seen addrs = (addr : Addr) → (has_addr seen addr ≡ true) ↔ Contains addrs addr

-- The set has this address, and else what it had.
abbrev pub Notes : AddrSet → AddrSet → Addr → Type 0
Notes old new addr = (other : Addr) → (has_addr new other ≡ true) ↔ ((has_addr old other ≡ true) ⊎ (addr ≡ other))

-- The known addresses come first, in their order, and then those of the others that are new. Each is there once if each known one was.
pub record Joins (known others joined : List Addr) : Type 0 where
  pub first : take (length known) joined ≡ known
  pub all : (addr : Addr) → Contains others addr → Contains joined addr
  pub only : (addr : Addr) → Contains joined addr → Contains known addr ⊎ Contains others addr
  pub distinct : AreDistinct known → AreDistinct joined
