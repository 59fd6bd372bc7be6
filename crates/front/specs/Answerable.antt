-- Datagrams to which a reply can be sent.
use Rattle.std.specs.Prelude.{◌≢◌, ℕ}
use Rattle.std.specs.declared.net.socket_addr.SocketAddr.{SocketAddr}
use Rattle.std.specs.Net.Socket.{socket_port}

-- The datagram came from a port that a reply can reach, and has an octet at least.
abbrev pub IsAnswerable : SocketAddr → ℕ → Type 0
IsAnswerable peer count = (socket_port peer ≢ 0) × (count ≢ 0)
