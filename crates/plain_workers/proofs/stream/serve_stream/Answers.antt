use Rattle.std.proofs.Common.{◌≡◌, [], ◌∷◌, ◌++◌, refl, ◌∙◌, arith}
use Rattle.std.specs.Io.KnownBytes.{Appends}
use Rattle.streams.specs.Laws.{Consumes-same, Appends-same, Appends-then}
use Rattle.dns_query.specs.declared.over.Over.TheVariants.{Tcp}
use Rattle.plain_workers.specs.Stream.{serving, lacking, written_for, Replying}
use Rattle.plain_workers.proofs.Streaming.{read_one, tell_one, stopped, broken, handed_on, at_port}
use Rattle.plain_workers.proofs.stream.serve_stream.Goals as goal

pub loop-message-init : goal.loop-message-init
loop-message-init g c = record {
  port = refl;
  so_far = ([], [], Consumes-same _, (refl, refl), Appends-same _);
  calls = refl;
  read_failures = refl;
  write_failures = refl;
}

pub loop-message-preserved : goal.loop-message-preserved
loop-message-preserved g c =
    let before = c.loop-message.invariant in
    let so = before.so_far in
    let came = rw c.in-Some.is at c.in_ok-message.ensures.came in
    let m = c.in-Some.message in
    let one = rw before.port at c.in-Ok.ensures.served in
    record {
      port = c.in-Ok.ensures.port ∙ before.port;
      so_far = (
        so.0 ++ m ∷ [],
        so.1 ++ written_for one.0,
        read_one _ _ _ so.0 m so.2 came.1,
        tell_one _ (Replying (serving g.D.Desk.calls g.X.Exchange.asks g.C.Clock.ticks c.args.tools.now.server_port Tcp)) _ _ _ so.0 m so.1 (written_for one.0) so.3 (one.0, came.0, one.1, refl),
        Appends-then _ _ _ so.1 (written_for one.0) so.4 one.2,
      );
      calls = omega (arith, c.take_message.ensures.calls, before.calls);
      read_failures = c.in_ok-message.ensures.failures ∙ before.read_failures;
      write_failures = c.in-Ok.ensures.failures ∙ before.write_failures;
    }

pub returns-in-Err-clause-streams : goal.returns-in-Err-clause-streams
returns-in-Err-clause-streams g c =
    let before = c.loop-message.invariant in
    let so = before.so_far in
    let came = rw c.in-Some.is at c.in_ok-message.ensures.came in
    let m = c.in-Some.message in
    let one = at_port g.D.Desk.calls g.X.Exchange.asks g.C.Clock.ticks c.in-Err.fault _ _ m _ _ _ _ before.port c.in-Err.ensures.served in
    stopped _ _ c.in-Err.fault _ _ _ _ _ _ _ _ _ so.0 m so.1 so.2 so.3 so.4 came.0 came.1 one

pub returns-in_err-message-clause-streams : goal.returns-in_err-message-clause-streams
returns-in_err-message-clause-streams g c =
    let so = c.loop-message.invariant.so_far in
    let fault = c.in_err-message.field-0.0 in
    let all = broken _ _ fault _ _ _ _ _ _ _ so.0 so.1 so.2 so.3 so.4 c.in_err-message.ensures.came in
    handed_on _ _ fault _ _ _ _ _ _ c.from_residual.result c.from_residual.ensures.1 all
