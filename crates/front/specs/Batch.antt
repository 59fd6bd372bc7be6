-- The datagrams of an inbox.
use Rattle.std.specs.Prelude.{List, map, take}
use Rattle.front.specs.declared.inbox.Inbox.{Inbox}
use Rattle.front.specs.declared.service_socket.ServiceSocket.{Ghosts}
use Rattle.front.specs.Rooms.{Arrived, arrived}

-- the batch that has come into this inbox: its slots, from the first on, that have a datagram
abbrev pub batch_of : {S : Type 0} {g : Ghosts S} → Inbox S g → List Arrived
batch_of inbox = map (λ slot. arrived slot.came slot.room) (take inbox.filled inbox.slots.items)
