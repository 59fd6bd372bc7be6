use Rattle.std.proofs.Common.{◌≡◌, ◌<◌}
use Rattle.dns_query.specs.declared.over.Over.TheVariants.{Udp}
use Rattle.plain_workers.specs.Stream.{serving, lacking}
use Rattle.plain_workers.specs.UdpWorking.{datagrams, answering}
use Rattle.plain_workers.specs.Working.{Works, HasFailed}
use Rattle.plain_workers.proofs.plain_udp.work_udp.Given as goal

-- what has come so far was served
abbrev pub invariant-loop : goal.invariant-loop
invariant-loop g l =
    let calls = g.D.Desk.calls in
    let asks = g.X.Exchange.asks in
    let ticks = g.C.Clock.ticks in
    let server_port = l.fn.tools.server_port in
    record {
      port_kept : l.tools.server_port ≡ server_port;
      so_far : Works (datagrams g.P.Port.takes) (answering (serving calls asks ticks server_port Udp) (lacking calls asks ticks server_port) g.P.Port.gives)
          (l.fn.desk, l.fn.tools.exchange, (l.fn.tools.clock, g.G.Rng.stream l.fn.tools.ids)) l.fn.port l.failed (l.desk, l.tools.exchange, (l.tools.clock, g.G.Rng.stream l.tools.ids)) l.port;
      few : l.failed < 16;
      counted : HasFailed l.failed (g.P.Port.failures l.fn.port) (g.P.Port.failures l.port);
    }
