-- The messages that come by a connection.
use Rattle.std.specs.Prelude.{ℕ, List, [], ◌∷◌}
use Rattle.replies.specs.Framing.{HasLength}
use Rattle.front.specs.declared.tcp.arrived.Arrived.{Arrived}
use Rattle.front.specs.declared.tcp.arrived.Arrived.TheVariants.{Message, Nothing, Part, End}
use Rattle.front.specs.Connections.{ConnectionState, Serves}
use Rattle.front.specs.Passages.{Passes}

-- A call read a connection. If a message came whole, it is the next one, and has a length. Else none came whole. Nothing became owed.
abbrev pub Arrives : {S : Type 0} → Passes S → Passes S → Arrived → ConnectionState S → ConnectionState S → Type 0
Arrives reads writes (Message message) old new = HasLength message × Serves reads writes (message ∷ []) [] old new
Arrives reads writes _ old new = Serves reads writes [] [] old new

-- If nothing was there to read, this fact holds.
abbrev pub OnNothing : Type 0 → Arrived → Type 0
OnNothing fact Nothing = fact
OnNothing fact _ = Unit {0}
