use Rattle.std.proofs.Common.{◌≡◌, ℕ, List, take}
use Rattle.streams.specs.declared.fault.Flow.TheVariants.{On}
use Rattle.streams.specs.Split.{ended_lines, begun_line, held_of}
use Rattle.streams.specs.Transcript.{paired}
use Rattle.streams.specs.Flow.{Tells}
use Rattle.streams.proofs.engine.feed.Given as goal

-- the octets so far are fed
abbrev pub invariant-loop-octet : goal.invariant-loop-octet
invariant-loop-octet g l =
    let contents = g.W.Sink.contents in
    let came = take l.octet-index l.octets in
    record {
      told : (begun : List ℕ) → l.fn.held ≡ held_of begun
          → Tells On (paired g.O.Obeyer.obeys) (l.fn.time, l.fn.desk) (ended_lines begun came) (l.time, l.desk) (contents l.fn.writer) (contents l.writer);
      held : (begun : List ℕ) → l.fn.held ≡ held_of begun → l.held ≡ held_of (begun_line begun came);
      failures : g.W.Sink.failures l.writer ≡ g.W.Sink.failures l.fn.writer;
    }
