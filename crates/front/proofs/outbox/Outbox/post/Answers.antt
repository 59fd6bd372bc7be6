use Rattle.std.proofs.Common.{ap, map}
use Rattle.front.specs.Outgoing.{datagram_of}
use Rattle.front.proofs.Sending.{none_waits, sent_at_once, with_waiting}
use Rattle.front.proofs.outbox.Outbox.post.Goals as goal

pub returns : goal.returns
returns g c =
    let none = none_waits c.self-2.view_is c.flush.ensures.none in
    let before = with_waiting (ap (map datagram_of) c.in-Err.ensures.items) (rw (← c.self-2.view_is) at c.flush.ensures.posts) in
    rw (← c.self.view_is) (sent_at_once before none none (rw c.in-Err.ensures.value_returned at c.send_one.ensures))
