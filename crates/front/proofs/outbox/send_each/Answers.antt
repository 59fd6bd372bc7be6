use Rattle.front.proofs.Sending.{sent_on}
use Rattle.front.proofs.outbox.send_each.Goals as goal

pub loop-outgoing-preserved : goal.loop-outgoing-preserved
loop-outgoing-preserved g c =
    sent_on g.S.ServiceSocket.sends c.args.waiting.now c.loop-outgoing.outgoing-index c.outgoing-item.result c.args.socket.now c.loop-outgoing.socket c.send_one.new.socket c.loop-outgoing-test.true c.outgoing-item.is c.loop-outgoing.invariant c.send_one.ensures
