-- How a worker asks name servers, which no call changes.
use Rattle.std.specs.Prelude.{◌≡◌, ℕ, List}
use Rattle.std.specs.declared.net.SocketAddr.{SocketAddr}
use Rattle.system.specs.declared.range.AddressRange.{AddressRange}
use Rattle.front_workers.specs.declared.asking.AskingTerms.{AskingTerms}

-- how a worker asks name servers
pub record AskingState : Type 0 where
  pub server_port : ℕ  -- the port of name servers that are known by name
  pub place : SocketAddr  -- the address at which the service listens, which is never asked
  pub do_not_query : List AddressRange  -- the addresses that are queried only as those of stubs or hints

-- so asks a worker whose service listens at this address
abbrev pub asking_at : SocketAddr → AskingTerms → AskingState
asking_at place asking = record { server_port = asking.server_port; place = place; do_not_query = asking.do_not_query.now }

-- the outbox of a worker, and how it asks name servers
pub record SocketsState (O : Type 0) : Type 0 where
  pub outbox : O
  pub asking : AskingState

-- this outbox of a worker that asks so
abbrev pub sockets_as : {O : Type 0} → O → AskingState → SocketsState O
sockets_as outbox asking = record { outbox = outbox; asking = asking }

-- A reply leaves by an outbox, and its worker asks name servers as before.
pub record PostsBy {O K : Type 0} (posts : O → K → List ℕ → O → Type 0) (old : SocketsState O) (client : K) (reply : List ℕ) (new : SocketsState O) : Type 0 where
  pub left : posts old.outbox client reply new.outbox
  pub asking : new.asking ≡ old.asking
