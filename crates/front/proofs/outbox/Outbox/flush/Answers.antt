use Rattle.std.proofs.Common.{ap, map}
use Rattle.front.specs.Outgoing.{datagram_of}
use Rattle.front.proofs.Sending.{flushed}
use Rattle.front.proofs.outbox.Outbox.flush.Goals as goal

pub returns-clause-posts : goal.returns-clause-posts
returns-clause-posts g c = rw (← c.self.view_is) (flushed _ _ (ap (map datagram_of) c.keep_each.ensures) (rw c.deref.ensures.value at c.send_each.ensures))
