-- The places that the service never asks.
use Rattle.std.specs.Prelude.{◌≡◌, ◌⊎◌, ◌≤◌, ◌∷◌, [], slice_index}
use Rattle.std.specs.Net.Addr.{HasPrefix, MatchIp, IsUnspecifiedV4, IsUnspecifiedV6, IsLoopbackV4, IsLoopbackV6, IsMulticastV4, IsMulticastV6, IsCanonicalOf, ipv4_octets}
use Rattle.std.specs.Net.Socket.{socket_ip, socket_port}
use Rattle.std.specs.declared.net.SocketAddr.{SocketAddr}
use Rattle.std.specs.declared.net.ip_addr.IpAddr.{IpAddr}
use Rattle.std.specs.declared.net.ipv4_addr.Ipv4Addr.{Ipv4Addr}
use Rattle.std.specs.declared.net.ipv6_addr.Ipv6Addr.{Ipv6Addr}
use Rattle.dns_text.specs.declared.addr.Addr.{Addr}
use Rattle.dns_query.specs.declared.over.Over.{Over}
use Rattle.dns_query.specs.declared.over.Over.TheVariants.{Udp, Tcp}
use Rattle.system.specs.Place.{IsPlaceOf}

-- An IPv4-mapped address stands for the IPv4 address in it (RFC 4291, section 2.5.5.2), and any other for itself.
abbrev pub StandsFor : IpAddr → IpAddr → Type 0
StandsFor ip plain = MatchIp ip (λ _. plain ≡ ip) (λ mapped. IsCanonicalOf mapped plain)

-- An IPv4 address that belongs to no host: of "this network", 0.0.0.0/8 (RFC 1122, section 3.2.1.3); multicast, 224.0.0.0/4 (RFC 1112, section 4); or reserved, 240.0.0.0/4 (the same), with the limited broadcast address.
abbrev pub IsNoHostV4 : Ipv4Addr → Type 0
IsNoHostV4 ip = HasPrefix (ipv4_octets ip) (0 ∷ []) ⊎ (IsMulticastV4 ip ⊎ (240 ≤ slice_index (ipv4_octets ip) 0))

-- An IPv6 address that belongs to no host: the unspecified address (RFC 4291, section 2.5.2), or multicast, ff00::/8 (section 2.7).
abbrev pub IsNoHostV6 : Ipv6Addr → Type 0
IsNoHostV6 ip = IsUnspecifiedV6 ip ⊎ IsMulticastV6 ip

-- An address that belongs to no host: unspecified, multicast, reserved or broadcast.
abbrev pub IsNoHost : IpAddr → Type 0
IsNoHost ip = (plain : IpAddr) × StandsFor ip plain × MatchIp plain IsNoHostV4 IsNoHostV6

-- A service that listens at the first address gets what is sent from the second to the last. Either the last is the first, or the first is the unspecified address and the last is a loopback address or the second.
abbrev pub IsHere : IpAddr → IpAddr → IpAddr → Type 0
IsHere listens asks asked = (asked ≡ listens) ⊎ (MatchIp listens IsUnspecifiedV4 IsUnspecifiedV6 × (MatchIp asked IsLoopbackV4 IsLoopbackV6 ⊎ (asked ≡ asks)))

-- A service that listens at the first place would ask itself, if it sent a query from the second to the last.
pub record IsOwn (service from place : SocketAddr) : Type 0 where
  pub port : socket_port place ≡ socket_port service
  pub listens : IpAddr
  pub asks : IpAddr
  pub asked : IpAddr
  pub is_listens : StandsFor (socket_ip service) listens
  pub is_asks : StandsFor (socket_ip from) asks
  pub is_asked : StandsFor (socket_ip place) asked
  pub here : IsHere listens asks asked

-- A service that listens at all addresses of its machine may be at a place with its port.
pub record MayBeOwn (service place : SocketAddr) : Type 0 where
  pub port : socket_port place ≡ socket_port service
  pub listens : IpAddr
  pub is_listens : StandsFor (socket_ip service) listens
  pub all : MatchIp listens IsUnspecifiedV4 IsUnspecifiedV6

-- The service may ask at this place by this socket, of which the relation gives the place from which it sends: the address belongs to a host, and the service would not ask itself.
abbrev pub MayAsk : {S : Type 0} → (S → SocketAddr → Type 0) → SocketAddr → SocketAddr → S → Type 0
MayAsk is_at service place socket = ¬ (IsNoHost (socket_ip place)) × ((from : SocketAddr) × is_at socket from × ¬ (IsOwn service from place))

-- No exchange with this place could begin: the network failed, the address belongs to no host, a socket that is connected to the place failed, or the service would ask itself.
abbrev pub IsNoLine : {S : Type 0} → Type 0 → (S → SocketAddr → Type 0) → (S → SocketAddr → Type 0) → (S → Type 0) → SocketAddr → SocketAddr → Type 0
IsNoLine {S} failed opened is_at failed' service place =
    failed ⊎ (IsNoHost (socket_ip place) ⊎ ((socket : S) × opened socket place × (failed' socket ⊎ ((from : SocketAddr) × is_at socket from × IsOwn service from place))))

-- The service may ask at this place by a socket that is connected to it.
abbrev pub MayAskAt : {S : Type 0} → (S → SocketAddr → Type 0) → (S → SocketAddr → Type 0) → SocketAddr → SocketAddr → Type 0
MayAskAt {S} opened is_at service place = (socket : S) × opened socket place × MayAsk is_at service place socket

-- The same by the transport: by a socket for datagrams, or by a connection.
abbrev pub MayAskOver : {S C : Type 0} → (S → SocketAddr → Type 0) → (S → SocketAddr → Type 0) → (C → SocketAddr → Type 0) → (C → SocketAddr → Type 0) → Over → SocketAddr → SocketAddr → Type 0
MayAskOver opened is_at connected is_at' Udp service place = MayAskAt opened is_at service place
MayAskOver opened is_at connected is_at' Tcp service place = MayAskAt connected is_at' service place

-- The service may ask this server over this transport.
abbrev pub MayAskServer : {S C : Type 0} → (S → SocketAddr → Type 0) → (S → SocketAddr → Type 0) → (C → SocketAddr → Type 0) → (C → SocketAddr → Type 0) → Over → SocketAddr → Addr → Type 0
MayAskServer opened is_at connected is_at' over service server =
    (place : SocketAddr) × IsPlaceOf server place × MayAskOver opened is_at connected is_at' over service place
