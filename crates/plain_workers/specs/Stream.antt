-- A stream of messages, served one after another (RFC 1035, section 4.2.2).
use Rattle.std.specs.Prelude.{◌≡◌, ◌⊎◌, ℕ, ◌<◌, ◌^◌, Option, Some, None, Result, Ok, Err, List, [], ◌∷◌, ◌++◌, length, take, flat_map}
use Rattle.std.specs.Io.KnownBytes.{Consumes, IsAtEnd, Appends}
use Rattle.streams.specs.Transcript.{Obeying, Transcript}
use Rattle.dns_query.specs.declared.over.Over.{Over}
use Rattle.replies.specs.declared.fault.StreamFault.{StreamFault}
use Rattle.replies.specs.declared.fault.StreamFault.TheVariants.{Read, Write, Short, NoMemory}
use Rattle.clock.specs.Ticks.{Ticks}
use Rattle.replies.specs.Calls.{Calls, Lent}
use Rattle.plain_workers.specs.Leads.{Asks}
use Rattle.plain_workers.specs.Serves.{Serves, IsUnserved}
use Rattle.replies.specs.Framing.{framed, length_octets, HasLength, IsPartial}

-- Octets are served: the state before, the octets, their reply or none, the state after.
abbrev pub Serving : Type 0 → Type 1
Serving O = O → List ℕ → Option (List ℕ) → O → Type 0

-- Octets get no reply, since no memory is left: the state before, the octets, the state after.
abbrev pub Lacking : Type 0 → Type 1
Lacking O = O → List ℕ → O → Type 0

-- Octets are served (`Serves`), where the state is a desk, an exchange, and a clock with a generator.
abbrev pub serving : {D X C : Type 0} → Calls D → Asks X → Ticks C → ℕ → Over → Serving (D × X × Lent C)
serving calls asks ticks port over old m reply new = Serves calls asks ticks port over m old.0 old.1 old.2 reply new.0 new.1 new.2

-- Octets get no reply (`IsUnserved`), where the state is the same.
abbrev pub lacking : {D X C : Type 0} → Calls D → Asks X → Ticks C → ℕ → Lacking (D × X × Lent C)
lacking calls asks ticks port old m new = IsUnserved calls asks ticks port m old.0 old.1 old.2 new.0 new.1 new.2

-- the octets that are written for a reply, or for none
abbrev pub written_for : Option (List ℕ) → List ℕ
written_for None = []
written_for (Some reply) = framed reply

-- One message of a stream is served, and this text written for its reply. No message ends the stream.
abbrev pub Replying : {O : Type 0} → Serving O → Obeying O
Replying serves old m text ends new = (reply : Option (List ℕ)) × HasLength m × serves old m reply new × (text ≡ written_for reply)

-- Messages are served in order, and these octets written.
abbrev pub Served : {O : Type 0} → Serving O → O → List (List ℕ) → List ℕ → O → Type 0
Served serves = Transcript (Replying serves)

-- The last message, for which no memory was left: the state before, what was read of it, the state after. There was no room for the message, or none on the way to its reply, or none for the reply preceded by its length.
pub data Lost {O : Type 0} (serves : Serving O) (lacks : Lacking O) (old : O) (rest : List ℕ) (new : O) : Type 0 where
  unread : {size : ℕ} → size < 2 ^ 16 → rest ≡ length_octets size → new ≡ old → Lost serves lacks old rest new
  unserved : {m : List ℕ} → HasLength m → rest ≡ framed m → lacks old m new → Lost serves lacks old rest new
  untold : {m reply : List ℕ} → HasLength m → rest ≡ framed m → serves old m (Some reply) new → Lost serves lacks old rest new

-- A stream was served: the state before and after, the octets that the reader had and has still to give, those that the writer held and holds.
abbrev pub Streams : {A O : Type 0} → Serving O → Lacking O → Result A StreamFault → O → O → Option (List ℕ) → Option (List ℕ) → Option (List ℕ) → Option (List ℕ) → Type 0
-- The whole input is messages. All are served, and their replies written.
Streams serves lacks (Ok _) o next left left' held held' = (messages : List (List ℕ)) × (out : List ℕ)
    × Consumes left left' (flat_map framed messages) × IsAtEnd left' × Served serves o messages out next × Appends held held' out
-- A read failed, or the input ended inside a message: the messages before are served.
Streams serves lacks (Err Read) o next left left' held held' = (messages : List (List ℕ)) × (rest : List ℕ) × (out : List ℕ)
    × Consumes left left' (flat_map framed messages ++ rest) × IsPartial rest × Served serves o messages out next × Appends held held' out
Streams serves lacks (Err Short) o next left left' held held' = (messages : List (List ℕ)) × (rest : List ℕ) × (out : List ℕ)
    × Consumes left left' (flat_map framed messages ++ rest) × IsPartial rest × (0 < length rest) × IsAtEnd left' × Served serves o messages out next × Appends held held' out
-- The messages before the one for which no memory was left are served.
Streams {O = O} serves lacks (Err NoMemory) o next left left' held held' = (messages : List (List ℕ)) × (rest : List ℕ) × (out : List ℕ) × (mid : O)
    × Consumes left left' (flat_map framed messages ++ rest) × Served serves o messages out mid × Lost serves lacks mid rest next × Appends held held' out
-- A write failed: the messages before are served and their replies written. This one is served, and a front of its reply written.
Streams {O = O} serves lacks (Err Write) o next left left' held held' = (messages : List (List ℕ)) × (m : List ℕ) × (out : List ℕ) × (mid : O) × (reply : List ℕ) × (n : ℕ)
    × Consumes left left' (flat_map framed (messages ++ m ∷ [])) × Served serves o messages out mid × HasLength m
    × serves mid m (Some reply) next × Appends held held' (out ++ take n (framed reply))

-- One message is served, and its reply written, or a front of it, or nothing: for contracts inside the crate.
abbrev pub ServedOne : {A O : Type 0} → Serving O → Lacking O → Result A StreamFault → List ℕ → O → O → Option (List ℕ) → Option (List ℕ) → Type 0
ServedOne serves lacks (Ok _) m o next old new = (reply : Option (List ℕ)) × serves o m reply next × Appends old new (written_for reply)
ServedOne serves lacks (Err Write) m o next old new = (reply : List ℕ) × serves o m (Some reply) next × (n : ℕ) × Appends old new (take n (framed reply))
ServedOne serves lacks (Err NoMemory) m o next old new = (lacks o m next ⊎ ((reply : List ℕ) × serves o m (Some reply) next)) × Appends old new []
ServedOne serves lacks (Err _) m o next old new = ⊥
