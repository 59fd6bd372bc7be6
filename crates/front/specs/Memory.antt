-- The memory that the connections of clients keep.
use Rattle.std.specs.Prelude.{◌≡◌, ◌<◌, ◌≤◌, ℕ, ◌+◌, ◌-◌, Option, Some, None, List}
use Rattle.std.specs.List.{sum_by}
use Rattle.front.specs.declared.tcp.tcp_front.TheConstants.{MOST_KEPT}
use Rattle.front.specs.declared.tcp.owed_replies.TheConstants.{MOST_AT_REST}
use Rattle.front.specs.Connections.{ConnectionState, ConnectionsState}

-- how many octets the connection under a key keeps beyond what it may keep at rest
abbrev pub beyond_in : {S : Type 0} → Option (ConnectionState S) → ℕ
beyond_in None = 0
beyond_in (Some connection) = connection.kept - MOST_AT_REST

-- how many octets all connections keep beyond that, together
abbrev pub beyond_all : {S : Type 0} → List (Option (ConnectionState S)) → ℕ
beyond_all {S} slots = sum_by (beyond_in {S = S}) slots

-- A connection that keeps so many octets may be kept beside these: together they keep no more beyond that than all may.
abbrev pub MayKeep : {S : Type 0} → ℕ → List (Option (ConnectionState S)) → Type 0
MayKeep kept slots = beyond_all slots + (kept - MOST_AT_REST) ≤ MOST_KEPT

-- A connection keeps too many octets to be kept beside these.
abbrev pub KeepsTooMuch : {S : Type 0} → ℕ → List (Option (ConnectionState S)) → Type 0
KeepsTooMuch kept slots = MOST_KEPT < beyond_all slots + (kept - MOST_AT_REST)

-- These connections keep just so many octets beyond that, which are no more than all may.
pub record AreWithin {S : Type 0} (slots : List (Option (ConnectionState S))) (beyond : ℕ) : Type 0 where
  pub sum : beyond ≡ beyond_all slots
  pub most : beyond ≤ MOST_KEPT

-- Beyond what each may keep at rest, the connections of a worker keep no more octets than all may.
abbrev pub KeepLittle : {S : Type 0} → ConnectionsState S → Type 0
KeepLittle state = beyond_all state.slots ≤ MOST_KEPT
