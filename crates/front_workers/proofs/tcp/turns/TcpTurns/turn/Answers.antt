use Rattle.front.proofs.Serving.{tends_none}
use Rattle.front_workers.proofs.Flowing.{streams_tend, streams_then}
use Rattle.front_workers.proofs.tcp.turns.TcpTurns.turn.Goals as goal

pub returns-in_err-wait-clause-goes_on : goal.returns-in_err-wait-clause-goes_on
returns-in_err-wait-clause-goes_on g c =
    let waited = c.wait.ensures in
    streams_tend _ _ _ (tends_none waited.connections) waited.taken waited.counts waited.failures waited.asks waited.onward

pub returns-in_err-tended-clause-goes_on : goal.returns-in_err-tended-clause-goes_on
returns-in_err-tended-clause-goes_on g c =
    let waited = c.wait.ensures in
    let tended = c.tend-tended.ensures in
    streams_then _ _ _ _ _ _ (streams_tend _ _ _ (tends_none waited.connections) waited.taken waited.counts waited.failures waited.asks waited.onward)
    (streams_then _ _ _ _ _ _ c.go_on.ensures.goes_on (streams_then _ _ _ _ _ _ (streams_tend _ _ _ tended.tends tended.taken tended.counts tended.failures tended.asks tended.onward) c.serve_queued.ensures.goes_on))

pub returns-clause-goes_on : goal.returns-clause-goes_on
returns-clause-goes_on g c =
    let waited = c.wait.ensures in
    let tended = c.tend-tended.ensures in
    streams_then _ _ _ _ _ _ (streams_tend _ _ _ (tends_none waited.connections) waited.taken waited.counts waited.failures waited.asks waited.onward)
    (streams_then _ _ _ _ _ _ c.go_on.ensures.goes_on (streams_then _ _ _ _ _ _ (streams_tend _ _ _ tended.tends tended.taken tended.counts tended.failures tended.asks tended.onward) c.serve_queued.ensures.goes_on))

pub returns-clause-overdue : goal.returns-clause-overdue
returns-clause-overdue g c =
    let waited = c.wait.ensures in
    let tended = c.tend-tended.ensures in
    let went = c.go_on.ensures in
    let before = streams_then _ _ _ _ _ _ (streams_tend c.args.questions.now c.args.self.now c.wait.new.self (tends_none waited.connections) waited.taken waited.counts waited.failures waited.asks waited.onward) went.goes_on in
    let after = streams_then _ _ _ _ _ _ (streams_tend c.go_on.new.questions c.go_on.new.self c.tend-tended.new.self tended.tends tended.taken tended.counts tended.failures tended.asks tended.onward) c.serve_queued.ensures.goes_on in
    record {
      between = c.go_on.new.questions;
      mid = c.go_on.new.self;
      before = before.runs;
      onward = before.keeps.time.onward;
      patient = went.patient;
      timely = went.timely;
      relieved = went.looks.relieved;
      looks = rw (← waited.counts, c.serve_queued.ensures.reported, tended.reported, went.reported) went.looks;
      listened = after.accounts.never_fall.listened;
      after = after.runs;
    }
