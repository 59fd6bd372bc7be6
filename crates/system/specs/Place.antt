-- The place of a name server.
use Rattle.std.specs.Prelude.{◌≡◌}
use Rattle.std.specs.Net.Addr.{ipv4_octets, ipv6_segments, segments_of, IsV4And, IsV6And}
use Rattle.std.specs.Net.Socket.{socket_ip, socket_port}
use Rattle.std.specs.declared.net.ip_addr.IpAddr.{IpAddr}
use Rattle.std.specs.declared.net.socket_addr.SocketAddr.{SocketAddr}
use Rattle.dns_text.specs.declared.addr.Ip.{Ip}
use Rattle.dns_text.specs.declared.addr.Ip.TheVariants.{V4, V6}
use Rattle.dns_text.specs.declared.addr.Addr.{Addr}

-- The IP address has these octets.
abbrev pub HasOctets : Ip → IpAddr → Type 0
HasOctets (V4 octets) ip = IsV4And ip (λ a. ipv4_octets a ≡ octets)
HasOctets (V6 octets) ip = IsV6And ip (λ a. ipv6_segments a ≡ segments_of octets)

-- The place has the server's IP address and port.
pub record IsPlaceOf (server : Addr) (place : SocketAddr) : Type 0 where
  pub ip : HasOctets server.ip (socket_ip place)
  pub port : socket_port place ≡ server.port
