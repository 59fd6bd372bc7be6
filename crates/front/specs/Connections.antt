-- The connections of clients, and what passes by them (RFC 7766, sections 6.2.1.1 and 7).
use Rattle.std.specs.Prelude.{◌≡◌, ◌≢◌, ◌⊎◌, ℕ, ◌+◌, ◌<◌, Option, Some, None, List, [], ◌∷◌, ◌++◌, flat_map, slice_index_or}
use Rattle.replies.specs.Framing.{framed, HasLength}
use Rattle.front.specs.Passages.{AllPassed, Passage, Passes, read_in, written_in}

-- the replies that a connection is owed
pub record OwedState : Type 0 where
  pub octets : List ℕ  -- those of their octets that have not left, with the lengths before them
  pub kept : ℕ  -- how many octets of memory they take

-- the visible state of a client's connection
pub record ConnectionState (S : Type 0) : Type 0 where
  pub stream : S  -- the connection itself
  pub serial : ℕ  -- its number, which no other connection of its worker ever has
  pub network : ℕ  -- the network of its client
  pub begun : List ℕ  -- what has come of the next message, with the length before it
  pub owed : List ℕ  -- the octets of replies that have not left, with the lengths before them
  pub kept : ℕ  -- how many octets of memory it keeps, for the message that has begun and for what is owed

-- a connection by which nothing has passed
abbrev pub fresh : {S : Type 0} → S → ℕ → ℕ → ConnectionState S
fresh stream serial network = record { stream = stream; serial = serial; network = network; begun = []; owed = []; kept = 0 }

-- By a connection just these messages came whole, and just these replies came to be owed, each preceded by its length. What was read is those messages one after another, with what has come of the next. What was written is the first of what is owed, in order, and nothing else.
pub record Serves {S : Type 0} (reads writes : Passes S) (messages replies : List (List ℕ)) (old new : ConnectionState S) : Type 0 where
  pub passages : List Passage
  pub went : AllPassed reads writes passages old.stream new.stream
  pub came : old.begun ++ read_in passages ≡ flat_map framed messages ++ new.begun
  pub left : written_in passages ++ new.owed ≡ old.owed ++ flat_map framed replies
  pub serial : new.serial ≡ old.serial
  pub network : new.network ≡ old.network

-- All that a connection is owed has left, or it takes no more octets now.
abbrev pub IsFlushed : {S : Type 0} → Type 0 → ConnectionState S → Type 0
IsFlushed drained connection = (connection.owed ≡ []) ⊎ drained

-- the visible state of a worker's connections
pub record ConnectionsState (S : Type 0) : Type 0 where
  pub slots : List (Option (ConnectionState S))  -- under each key the connection that is open
  pub next : ℕ  -- the number of the next connection

-- the connection under a key
abbrev pub connection_at : {S : Type 0} → ConnectionsState S → ℕ → Option (ConnectionState S)
connection_at state key = slice_index_or state.slots key None

-- No connection is open, and none was.
abbrev pub no_connections : {S : Type 0} → ConnectionsState S
no_connections = record { slots = []; next = 0 }

-- Under this key is this connection, or none. Each other one is as it was.
pub record Becomes {S : Type 0} (key : ℕ) (slot : Option (ConnectionState S)) (old new : ConnectionsState S) : Type 0 where
  pub changed : connection_at new key ≡ slot
  pub others : (other : ℕ) → other ≢ key → connection_at new other ≡ connection_at old other

-- No connection under this key has this number.
abbrev pub IsGone : {S : Type 0} → ℕ → ℕ → ConnectionsState S → Type 0
IsGone {S} key serial state = (connection : ConnectionState S) → connection_at state key ≡ Some connection → connection.serial ≢ serial

-- Each number is of one connection at most, and none has a number that is yet to come.
abbrev pub AreNumbered : {S : Type 0} → List (Option (ConnectionState S)) → ℕ → Type 0
AreNumbered {S} slots next = (key : ℕ) (connection : ConnectionState S) → slice_index_or slots key None ≡ Some connection → connection.serial < next

-- One connection is served: these messages came by it, and these replies are owed to it. The others are as they were.
pub record ServesOne {S : Type 0} (reads writes : Passes S) (key serial : ℕ) (messages replies : List (List ℕ)) (old new : ConnectionsState S) : Type 0 where
  pub before : ConnectionState S
  pub after : ConnectionState S
  pub was : connection_at old key ≡ Some before
  pub number : before.serial ≡ serial
  pub serves : Serves reads writes messages replies before after
  pub becomes : Becomes key (Some after) old new
  pub next : new.next ≡ old.next

-- A connection ends. The others are as they were.
pub record EndsOne {S : Type 0} (key serial : ℕ) (old new : ConnectionsState S) : Type 0 where
  pub before : ConnectionState S
  pub was : connection_at old key ≡ Some before
  pub number : before.serial ≡ serial
  pub becomes : Becomes key None old new
  pub next : new.next ≡ old.next

-- A connection begins under a free key, with a number that none had. The others are as they were.
pub record BeginsOne {S : Type 0} (key : ℕ) (stream : S) (network : ℕ) (old new : ConnectionsState S) : Type 0 where
  pub free : connection_at old key ≡ None
  pub becomes : Becomes key (Some (fresh stream old.next network)) old new
  pub next : new.next ≡ old.next + 1

-- Connections begin, go on and end. No message comes whole by any, and no reply comes to be owed.
pub data Tends {S : Type 0} (reads writes : Passes S) (old : ConnectionsState S) : ConnectionsState S → Type 0 where
  stays : Tends reads writes old old
  serves : {key serial : ℕ} {mid new : ConnectionsState S} → Tends reads writes old mid → ServesOne reads writes key serial [] [] mid new → Tends reads writes old new
  ends : {key serial : ℕ} {mid new : ConnectionsState S} → Tends reads writes old mid → EndsOne key serial mid new → Tends reads writes old new
  begins : {key network : ℕ} {stream : S} {mid new : ConnectionsState S} → Tends reads writes old mid → BeginsOne key stream network mid new → Tends reads writes old new

-- A reply comes to be owed to one connection, and leaves as far as that takes octets. Else the connection ends, or has ended before: then nothing happens.
pub data Owes {S : Type 0} (reads writes : Passes S) (drained : Type 0) (key serial : ℕ) (reply : List ℕ) (old new : ConnectionsState S) : Type 0 where
  gone : IsGone key serial old → new ≡ old → Owes reads writes drained key serial reply old new
  owed : (serves : ServesOne reads writes key serial [] (reply ∷ []) old new) → IsFlushed drained serves.after → Owes reads writes drained key serial reply old new
  ended : EndsOne key serial old new → Owes reads writes drained key serial reply old new
