-- What a worker takes of a connection.
use Rattle.std.specs.Prelude.{◌≡◌, ℕ, [], ◌∷◌}
use Rattle.replies.specs.Framing.{HasLength}
use Rattle.front.specs.declared.tcp.taken.TakenMessage.{TakenMessage}
use Rattle.front.specs.declared.tcp.taken.TakenMessage.TheVariants.{Message, More, Nothing}
use Rattle.front.specs.Connections.{ConnectionsState, ServesOne, Tends}
use Rattle.front.specs.Passages.{Passes}

-- A call read the connection under a key. If a message came whole, it is the next of that connection, whose number and network these are. Else none came whole by any connection.
abbrev pub TakesFrom : {S : Type 0} → Passes S → Passes S → ℕ → TakenMessage → ConnectionsState S → ConnectionsState S → Type 0
TakesFrom reads writes key (Message serial network message) old new =
    HasLength message × ((one : ServesOne reads writes key serial (message ∷ []) [] old new) × (one.before.network ≡ network))
TakesFrom reads writes key _ old new = Tends reads writes old new
