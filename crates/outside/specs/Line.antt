-- The state of an exchange over TCP.
use Rattle.std.specs.Prelude.{◌≡◌, ◌<◌, ℕ, Option, List, [], length, slice_range, take}
use Rattle.std.specs.Io.{appended_bytes}
use Rattle.std.specs.Io.KnownBytes.{Appends, Consumes}
use Rattle.replies.specs.Wanting.{IsWholeFrame}

-- the state of an exchange over TCP, as contracts see it
pub record LineState (S : Type 0) : Type 0 where
  pub stream : S  -- the connection
  pub asks : List ℕ  -- the query preceded by its length
  pub left : ℕ  -- how many octets of it have left
  pub came : List ℕ  -- what has come of the reply preceded by its length

-- The octets that have left since are the next of the query and were written, and those that have come since were read after them.
abbrev pub Moves : {S : Type 0} → (S → Option (List ℕ)) → (S → Option (List ℕ)) → LineState S → LineState S → Type 0
Moves {S} contents remaining old new =
    (written : S) × Appends (contents old.stream) (contents written) (slice_range old.asks old.left new.left) × Consumes (remaining written) (remaining new.stream) (appended_bytes old.came new.came)

-- A fresh connection came this far: the octets of the query that have left were written to it, and those that have come were read after them. Nothing is read before the whole query has left.
pub record WentFrom {S : Type 0} (contents remaining : S → Option (List ℕ)) (fresh : S) (line : LineState S) : Type 0 where
  pub written : S
  pub asked : Appends (contents fresh) (contents written) (take line.left line.asks)
  pub told : Consumes (remaining written) (remaining line.stream) line.came
  pub unread : line.left < length line.asks → (written ≡ line.stream) × (line.came ≡ [])

-- A line that came this far from a fresh connection has gone on from there, on the same connection.
abbrev pub WentOn : {S : Type 0} → (S → Option (List ℕ)) → (S → Option (List ℕ)) → LineState S → LineState S → Type 0
WentOn {S} contents remaining old new = (fresh : S) → WentFrom contents remaining fresh old → WentFrom contents remaining fresh new

-- The whole query has left, and a whole reply has come.
pub record IsDone {S : Type 0} (line : LineState S) : Type 0 where
  pub left : line.left ≡ length line.asks
  pub came : IsWholeFrame line.came
