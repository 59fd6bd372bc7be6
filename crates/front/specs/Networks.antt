-- The network of an address, as a number. Only reserved addresses of IPv6, which begin with 40 zero bits, have the number of an IPv4 network.
use Rattle.std.specs.Prelude.{ℕ, ◌+◌, ◌*◌, ◌/◌, ◌==◌, ◌&&◌, List, slice_index, if◌then◌else◌}
use Rattle.std.specs.Net.Addr.{ipv4_octets, ipv6_segments}
use Rattle.std.specs.declared.net.ip_addr.IpAddr.{IpAddr}
use Rattle.std.specs.declared.net.ip_addr.IpAddr.TheVariants.{V4, V6}

-- the first 24 bits of an IPv4 address with these octets
abbrev pub v4_network : List ℕ → ℕ
v4_network octets = (slice_index octets 0 * 256 + slice_index octets 1) * 256 + slice_index octets 2

-- the first 64 bits of an IPv6 address with these segments
abbrev pub v6_front : List ℕ → ℕ
v6_front segments = ((slice_index segments 0 * 65536 + slice_index segments 1) * 65536 + slice_index segments 2) * 65536 + slice_index segments 3

-- the same, or the first 24 bits of the IPv4 address for which the address stands, behind 80 bits of 0 and 16 bits of 1 (RFC 4291, section 2.5.5.2)
abbrev pub v6_network : List ℕ → ℕ
v6_network segments =
    if (v6_front segments == 0) && (slice_index segments 4 * 65536 + slice_index segments 5 == 65535) then slice_index segments 6 * 256 + slice_index segments 7 / 256
    else v6_front segments

-- the network of an address: the /24 of an IPv4 address, the /64 of an IPv6 address
abbrev pub network_of : IpAddr → ℕ
network_of (V4 ip) = v4_network (ipv4_octets ip)
network_of (V6 ip) = v6_network (ipv6_segments ip)
