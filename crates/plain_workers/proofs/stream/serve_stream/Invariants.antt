use Rattle.std.proofs.Common.{◌≡◌, ◌+◌, ◌^◌, ◌-◌, List, ℕ}
use Rattle.std.specs.Prelude.{flat_map}
use Rattle.std.specs.Io.KnownBytes.{Consumes, Appends}
use Rattle.dns_query.specs.declared.over.Over.TheVariants.{Tcp}
use Rattle.replies.specs.Framing.{framed}
use Rattle.plain_workers.specs.Stream.{serving, Served}
use Rattle.plain_workers.proofs.stream.serve_stream.Given as goal

-- the messages so far are served
abbrev pub invariant-loop-message : goal.invariant-loop-message
invariant-loop-message g l =
    let remaining = g.S.Source.remaining in
    let contents = g.W.Sink.contents in
    record {
      port : l.tools.server_port ≡ l.fn.tools.server_port;
      so_far : (messages : List (List ℕ)) × (out : List ℕ) × Consumes (remaining l.fn.reader) (remaining l.reader) (flat_map framed messages)
          × Served (serving g.D.Desk.calls g.X.Exchange.asks g.C.Clock.ticks l.fn.tools.server_port Tcp)
          (l.fn.desk, l.fn.tools.exchange, (l.fn.tools.clock, g.R.Rng.stream l.fn.tools.ids)) messages out (l.desk, l.tools.exchange, (l.tools.clock, g.R.Rng.stream l.tools.ids))
          × Appends (contents l.fn.writer) (contents l.writer) out;
      calls : g.S.Source.calls l.reader + l.left ≡ g.S.Source.calls l.fn.reader + (2 ^ 40 - 1);
      read_failures : g.S.Source.failures l.reader ≡ g.S.Source.failures l.fn.reader;
      write_failures : g.W.Sink.failures l.writer ≡ g.W.Sink.failures l.fn.writer;
    }

abbrev pub decreases-loop-message : goal.decreases-loop-message
decreases-loop-message g l = l.left
