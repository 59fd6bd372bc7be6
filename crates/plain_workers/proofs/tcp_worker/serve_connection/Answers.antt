use Rattle.plain_workers.proofs.Counting.{excused}
use Rattle.plain_workers.proofs.tcp_worker.serve_connection.Goals as goal

pub returns-clause-streamed : goal.returns-clause-streamed
returns-clause-streamed g c =
    let done = c.serve_stream in (
      done.result,
      done.new.reader,
      done.new.writer,
      done.ensures.streams,
      excused g.S.Source.calls g.S.Source.failures g.W.Sink.failures done.result _ _ _ _ done.ensures.read_failed done.ensures.write_failed,
    )
