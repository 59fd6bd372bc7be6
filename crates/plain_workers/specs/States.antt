-- The state before and after each call of this crate: a desk, and the tools of a worker.
use Rattle.std.specs.Prelude.{ℕ, Option, option_map, Result, IfOk, List, Vec}
use Rattle.std.specs.declared.net.SocketAddr.{SocketAddr}
use Rattle.rand_core.specs.Stream.{Stream}
use Rattle.streams.specs.declared.sink.Sink.{Ghosts as OfSink}
use Rattle.streams.specs.declared.source.Source.{Ghosts as OfSource}
use Rattle.dns_text.specs.declared.record.Question.{Question}
use Rattle.dns_query.specs.declared.over.Over.{Over}
use Rattle.dns_query.specs.declared.over.Over.TheVariants.{Udp, Tcp}
use Rattle.iterate.specs.declared.answer.Answer.{Answer}
use Rattle.system.specs.declared.device.DeviceFault.{DeviceFault}
use Rattle.replies.specs.declared.fault.StreamFault.{StreamFault}
use Rattle.system.specs.declared.came.Came.{Came}
use Rattle.plain_workers.specs.declared.tools.Tools.{Tools}
use Rattle.plain_workers.specs.declared.work_end.WorkEnd.{WorkEnd}
use Rattle.clock.specs.Ticks.{Ticks}
use Rattle.replies.specs.Calls.{Calls, Lent}
use Rattle.plain_workers.specs.Leads.{Asks, EndsInAnswer, BreaksOff}
use Rattle.plain_workers.specs.Serves.{Serves, IsUnserved}
use Rattle.plain_workers.specs.Stream.{serving, lacking, ServedOne, Streams}
use Rattle.plain_workers.specs.UdpWorking.{Answered, Given, datagrams, answering}
use Rattle.plain_workers.specs.TcpWorking.{Streamed, connections, streaming}
use Rattle.plain_workers.specs.Working.{WorksUntil}

-- the clock of the tools, and the words that their generator gives from here on
abbrev pub lent_of : {X C R : Type 0} → (R → Stream) → Tools X C R → Lent C
lent_of stream tools = (tools.clock, stream tools.ids)

-- a desk, and the tools' exchange, clock and generator
abbrev pub state_of : {D X C R : Type 0} → (R → Stream) → D → Tools X C R → D × X × Lent C
state_of stream desk tools = (desk, tools.exchange, lent_of stream tools)

-- A task for the question ended in this answer.
abbrev pub TaskEnds : {D X C R : Type 0} → Calls D → Asks X → Ticks C → (R → Stream) → Question → Answer → D → Tools X C R → D → Tools X C R → Type 0
TaskEnds calls asks ticks stream question answer desk tools desk' tools' =
    EndsInAnswer calls asks ticks tools.server_port question desk tools.exchange (lent_of stream tools) answer desk' tools'.exchange (lent_of stream tools')

-- A task for the question broke off, since no memory was left.
abbrev pub TaskBreaksOff : {D X C R : Type 0} → Calls D → Asks X → Ticks C → (R → Stream) → Question → D → Tools X C R → D → Tools X C R → Type 0
TaskBreaksOff calls asks ticks stream question desk tools desk' tools' =
    BreaksOff calls asks ticks tools.server_port question desk tools.exchange (lent_of stream tools) desk' tools'.exchange (lent_of stream tools')

-- The query in these octets got this reply, or none.
abbrev pub QueryServed : {D X C R : Type 0} → Calls D → Asks X → Ticks C → (R → Stream) → Over → List ℕ → Option (List ℕ) → D → Tools X C R → D → Tools X C R → Type 0
QueryServed calls asks ticks stream over octets reply desk tools desk' tools' =
    Serves calls asks ticks tools.server_port over octets desk tools.exchange (lent_of stream tools) reply desk' tools'.exchange (lent_of stream tools')

-- If there was memory for it, the query in these octets got the reply that was returned, or none.
abbrev pub QueryReplied : {D X C R A E : Type 0} → Calls D → Asks X → Ticks C → (R → Stream) → Over → List ℕ → Result (Option (Vec ℕ A)) E → D → Tools X C R → D → Tools X C R → Type 0
QueryReplied calls asks ticks stream over octets result desk tools desk' tools' =
    IfOk result (λ reply. QueryServed calls asks ticks stream over octets (option_map (λ out. out.items) reply) desk tools desk' tools')

-- The query in these octets got no reply, since no memory was left.
abbrev pub QueryUnserved : {D X C R : Type 0} → Calls D → Asks X → Ticks C → (R → Stream) → List ℕ → D → Tools X C R → D → Tools X C R → Type 0
QueryUnserved calls asks ticks stream octets desk tools desk' tools' =
    IsUnserved calls asks ticks tools.server_port octets desk tools.exchange (lent_of stream tools) desk' tools'.exchange (lent_of stream tools')

-- One message of a connection was served, and its reply written after what the writer held.
abbrev pub MessageServed : {A D X C R : Type 0} → Calls D → Asks X → Ticks C → (R → Stream) → Result A StreamFault → List ℕ
    → D → Tools X C R → Option (List ℕ) → D → Tools X C R → Option (List ℕ) → Type 0
MessageServed calls asks ticks stream result message desk tools held desk' tools' held' =
    ServedOne (serving calls asks ticks tools.server_port Tcp) (lacking calls asks ticks tools.server_port) result message
    (state_of stream desk tools) (state_of stream desk' tools') held held'

-- A stream of messages was served: `left` is what the reader had to give before and has after, `held` what the writer holds.
abbrev pub StreamServed : {A D X C R : Type 0} → Calls D → Asks X → Ticks C → (R → Stream) → Result A StreamFault → D → Tools X C R → D → Tools X C R
    → Option (List ℕ) → Option (List ℕ) → Option (List ℕ) → Option (List ℕ) → Type 0
StreamServed calls asks ticks stream result desk tools desk' tools' left left' held held' =
    Streams (serving calls asks ticks tools.server_port Tcp) (lacking calls asks ticks tools.server_port) result
    (state_of stream desk tools) (state_of stream desk' tools') left left' held held'

-- The connection of a client was served as a stream.
abbrev pub ClientServed : {D X C R S W : Type 0} → Calls D → Asks X → Ticks C → (R → Stream) → OfSource S → OfSink W → S × W
    → D → Tools X C R → D → Tools X C R → Type 0
ClientServed calls asks ticks stream reads writes connection desk tools desk' tools' =
    Streamed (serving calls asks ticks tools.server_port Tcp) (lacking calls asks ticks tools.server_port)
    reads.remaining reads.calls reads.failures writes.contents writes.failures connection (state_of stream desk tools) (state_of stream desk' tools')

-- A worker served connections, each to its end before it accepted the next.
abbrev pub ConnectionsServed : {D X C R L S W : Type 0} → Calls D → Asks X → Ticks C → (R → Stream) → (L → Result (Option (S × W)) DeviceFault → L → Type 0)
    → OfSource S → OfSink W → WorkEnd → D → Tools X C R → L → D → Tools X C R → L → Type 0
ConnectionsServed calls asks ticks stream accepts reads writes end desk tools listener desk' tools' listener' =
    WorksUntil end (connections accepts)
    (streaming (Streamed (serving calls asks ticks tools.server_port Tcp) (lacking calls asks ticks tools.server_port)
    reads.remaining reads.calls reads.failures writes.contents writes.failures))
    (state_of stream desk tools) listener (state_of stream desk' tools') listener'

-- A datagram from a peer was answered, and the reply, if it got one, handed to the port for that peer.
abbrev pub DatagramServed : {D X C R P : Type 0} → Calls D → Asks X → Ticks C → (R → Stream) → (P → SocketAddr → List ℕ → Result (Unit {0}) DeviceFault → P → Type 0)
    → SocketAddr → List ℕ → D → Tools X C R → P → D → Tools X C R → P → Type 0
DatagramServed calls asks ticks stream gives peer octets desk tools port desk' tools' port' =
    (reply : Option (List ℕ)) × Answered (serving calls asks ticks tools.server_port Udp) (lacking calls asks ticks tools.server_port)
    octets (state_of stream desk tools) reply (state_of stream desk' tools') × Given gives peer reply port port'

-- A worker served datagrams, each before it took the next.
abbrev pub DatagramsServed : {D X C R P : Type 0} → Calls D → Asks X → Ticks C → (R → Stream) → (P → Result (Option Came) DeviceFault → List ℕ → P → Type 0)
    → (P → SocketAddr → List ℕ → Result (Unit {0}) DeviceFault → P → Type 0) → WorkEnd → D → Tools X C R → P → D → Tools X C R → P → Type 0
DatagramsServed calls asks ticks stream takes gives end desk tools port desk' tools' port' =
    WorksUntil end (datagrams takes) (answering (serving calls asks ticks tools.server_port Udp) (lacking calls asks ticks tools.server_port) gives)
    (state_of stream desk tools) port (state_of stream desk' tools') port'
