-- The work of a worker on connections: each is served as a stream of messages.
use Rattle.std.specs.Prelude.{◌≡◌, ℕ, ◌+◌, Option, Result, Err, IsErrOf, List}
use Rattle.streams.specs.Engine.{FailsToRead}
use Rattle.system.specs.declared.device.DeviceFault.{DeviceFault}
use Rattle.replies.specs.declared.fault.StreamFault.{StreamFault}
use Rattle.replies.specs.declared.fault.StreamFault.TheVariants.{Read, Write}
use Rattle.plain_workers.specs.Stream.{Serving, Lacking, Streams}
use Rattle.plain_workers.specs.Working.{Coming, Handling}

-- A stream ends by `Read` or `Write` only if a read or a write failed, or if it took all the reads that it may: the reader and the writer before and after.
abbrev pub IsExcused : {A S W : Type 0} → (S → ℕ) → (S → ℕ) → (W → ℕ) → Result A StreamFault → S → S → W → W → Type 0
IsExcused calls reads_failed writes_failed (Err Read) s s' w w' = FailsToRead (calls s) (calls s') (reads_failed s) (reads_failed s')
IsExcused calls reads_failed writes_failed (Err Write) s s' w w' = writes_failed w' ≡ writes_failed w + 1
IsExcused calls reads_failed writes_failed _ s s' w w' = Unit {0}

-- If a stream ended by `Read`, its reader could not read on: the reader before and after.
abbrev pub ReadFails : {A S : Type 0} → (S → ℕ) → (S → ℕ) → Result A StreamFault → S → S → Type 0
ReadFails calls failures result s s' = IsErrOf result Read → FailsToRead (calls s) (calls s') (failures s) (failures s')

-- A connection is served as a stream of messages.
abbrev pub Streamed : {O S W : Type 0} → Serving O → Lacking O → (S → Option (List ℕ)) → (S → ℕ) → (S → ℕ) → (W → Option (List ℕ)) → (W → ℕ) → S × W → O → O → Type 0
Streamed {S = S} {W = W} serves lacks remaining calls reads_failed contents writes_failed connection o next =
    (result : Result (Unit {0}) StreamFault) × (reader : S) × (writer : W)
    × Streams serves lacks result o next (remaining connection.0) (remaining reader) (contents connection.1) (contents writer)
    × IsExcused calls reads_failed writes_failed result connection.0 reader connection.1 writer

-- A connection comes in.
abbrev pub connections : {L S W : Type 0} → (L → Result (Option (S × W)) DeviceFault → L → Type 0) → Coming L (S × W)
connections accepts came old new = accepts old came new

-- A connection is served, and the listener is as it was.
abbrev pub streaming : {O L S W : Type 0} → (S × W → O → O → Type 0) → Handling O L (S × W)
streaming streamed connection o l o' l' = streamed connection o o' × (l' ≡ l)
