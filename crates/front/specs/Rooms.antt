-- Rooms, each with the datagram at its front.
use Rattle.std.specs.Prelude.{ℕ, Option, Some, None, List, [], ◌∷◌, take}
use Rattle.system.specs.declared.came.Came.{Came}
use Rattle.front.specs.Moves.{Datagram, datagram_to}

-- a room, and the datagram at its front
pub record Arrived : Type 0 where
  pub came : Option Came
  pub room : List ℕ

-- this room with this datagram at its front
abbrev pub arrived : Option Came → List ℕ → Arrived
arrived came room = record { came = came; room = room }

-- the datagram at the front of a room, if there is one, and these
abbrev pub with_front : Option Came → List ℕ → List Datagram → List Datagram
with_front None room rest = rest
with_front (Some came) room rest = datagram_to came.peer (take came.count room) ∷ rest

-- the datagrams at the fronts of these rooms
abbrev pub fronts_of : List Arrived → List Datagram
fronts_of [] = []
fronts_of (one ∷ rest) = with_front one.came one.room (fronts_of rest)
