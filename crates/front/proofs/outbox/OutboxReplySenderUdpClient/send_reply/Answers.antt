use Rattle.front.proofs.outbox.OutboxReplySenderUdpClient.send_reply.Goals as goal

pub returns : goal.returns
returns g c = rw c.peer.ensures at c.post.ensures
