use Rattle.std.proofs.Common.{◌≡◌, ◌<◌}
use Rattle.dns_query.specs.declared.over.Over.TheVariants.{Tcp}
use Rattle.plain_workers.specs.Stream.{serving, lacking}
use Rattle.plain_workers.specs.TcpWorking.{connections, streaming, Streamed}
use Rattle.plain_workers.specs.Working.{Works, HasFailed}
use Rattle.plain_workers.proofs.tcp_worker.work_tcp.Given as goal

-- the connections so far were served
abbrev pub invariant-loop : goal.invariant-loop
invariant-loop g l =
    let calls = g.D.Desk.calls in
    let asks = g.X.Exchange.asks in
    let ticks = g.C.Clock.ticks in
    let server_port = l.fn.tools.server_port in
    let reads = g.S.Source in
    let writes = g.W.Sink in
    record {
      port_kept : l.tools.server_port ≡ server_port;
      so_far : Works (connections g.L.Listener.accepts) (streaming (Streamed (serving calls asks ticks server_port Tcp) (lacking calls asks ticks server_port)
          reads.remaining reads.calls reads.failures writes.contents writes.failures))
          (l.fn.desk, l.fn.tools.exchange, (l.fn.tools.clock, g.G.Rng.stream l.fn.tools.ids)) l.fn.listener l.failed (l.desk, l.tools.exchange, (l.tools.clock, g.G.Rng.stream l.tools.ids)) l.listener;
      few : l.failed < 16;
      counted : HasFailed l.failed (g.L.Listener.failures l.fn.listener) (g.L.Listener.failures l.listener);
    }
