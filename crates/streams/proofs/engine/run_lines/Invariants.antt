use Rattle.std.proofs.Common.{◌≡◌, ◌+◌, ◌≤◌, ℕ, List, [], length}
use Rattle.std.specs.Io.KnownBytes.{Consumes}
use Rattle.streams.specs.declared.engine.TheConstants.{MOST_READS, ROOM}
use Rattle.streams.specs.declared.fault.Flow.TheVariants.{On}
use Rattle.streams.specs.Split.{ended_lines, begun_line, held_of}
use Rattle.streams.specs.Transcript.{paired}
use Rattle.streams.specs.Flow.{Tells}
use Rattle.streams.proofs.engine.run_lines.Given as goal

-- what was read so far is fed
abbrev pub invariant-loop : goal.invariant-loop
invariant-loop g l =
    let contents = g.W.Sink.contents in
    record {
      told : (input : List ℕ) × Consumes (g.S.Source.remaining l.fn.reader) (g.S.Source.remaining l.reader) input
          × Tells On (paired g.O.Obeyer.obeys) (l.fn.time, l.fn.desk) (ended_lines [] input) (l.time, l.desk) (contents l.fn.writer) (contents l.writer)
          × (l.held ≡ held_of (begun_line [] input));
      room : length l.room ≡ ROOM;
      write_failures : g.W.Sink.failures l.writer ≡ g.W.Sink.failures l.fn.writer;
      failures : g.S.Source.failures l.reader ≡ g.S.Source.failures l.fn.reader;
      calls : g.S.Source.calls l.reader + 1 ≡ g.S.Source.calls l.fn.reader + l.counter;
      few : l.counter ≤ MOST_READS;
    }
