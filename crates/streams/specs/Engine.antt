-- A run over the lines of an input: the octets that it read, the lines that it obeyed, the text that it wrote, and why it ended.
use Rattle.std.specs.Prelude.{◌≡◌, ◌⊎◌, ℕ, ◌+◌, Result, Ok, Err, Option, List, [], IsErrOf}
use Rattle.std.specs.Io.KnownBytes.{Appends, Consumes}
use Rattle.streams.specs.declared.engine.TheConstants.{MOST_READS}
use Rattle.streams.specs.declared.fault.Ended.{Ended}
use Rattle.streams.specs.declared.fault.ScriptFault.{ScriptFault}
use Rattle.streams.specs.declared.fault.ScriptFault.TheVariants.{Read, Write}
use Rattle.streams.specs.Split.{ended_lines, lines_of}
use Rattle.streams.specs.Transcript.{Obeying, Transcript, Partly, IsFront, EndsBy}

-- The lines of an input that a run obeyed, by its result: all of them, or those up to the one that stops.
-- If a read failed, each line that has its end. If a write failed, those up to a line of whose reply only a front was written.
abbrev pub ObeysUntil : {O : Type 0} → Result Ended ScriptFault → Obeying O → O → List ℕ → List ℕ → O → Option (List ℕ) → Type 0
ObeysUntil (Ok ended) obeys o input text next left = EndsBy ended obeys o (lines_of input) text next left
ObeysUntil (Err Read) obeys o input text next left = Transcript obeys o (ended_lines [] input) text next
ObeysUntil (Err Write) obeys o input text next left = Partly obeys IsFront o (lines_of input) text next

-- A run over lines, from state o to next: it read an input, which leaves `left` of `unread`; it obeyed lines of the input,
-- as far as its result says; and it wrote their replies and nothing else, which makes `old` into `new`.
pub record RunsLines {O : Type 0} (result : Result Ended ScriptFault) (obeys : Obeying O) (o next : O)
    (unread left old new : Option (List ℕ)) : Type 0 where
  pub input : List ℕ
  pub text : List ℕ
  pub reads : Consumes unread left input
  pub obeyed : ObeysUntil result obeys o input text next left
  pub writes : Appends old new text

-- A run that could not read on: a read failed, or the run had made as many reads as it may.
abbrev pub FailsToRead : ℕ → ℕ → ℕ → ℕ → Type 0
FailsToRead calls calls' failures failures' = (failures' ≡ failures + 1) ⊎ (calls' + 1 ≡ calls + MOST_READS)

-- If a run ended by `Read`, its reader could not read on: the reader before and after.
abbrev pub ReadFails : {A S : Type 0} → (S → ℕ) → (S → ℕ) → Result A ScriptFault → S → S → Type 0
ReadFails calls failures result reader reader' = IsErrOf result Read → FailsToRead (calls reader) (calls reader') (failures reader) (failures reader')
