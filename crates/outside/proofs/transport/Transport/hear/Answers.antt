use Rattle.std.proofs.Common.{inr}
use Rattle.outside.proofs.Hearing.{cut_off_tcp, heard_on}
use Rattle.outside.proofs.transport.Transport.hear.Goals as goal

pub returns-in-Tcp-clause-heard : goal.returns-in-Tcp-clause-heard
returns-in-Tcp-clause-heard g c =
    λ exchange query way. heard_on _ _ _ _ _ _ _ exchange _ _ _ _ query (rw c.in-Tcp.is at way) c.hear_tcp.ensures.asks c.hear_tcp.ensures.went c.hear_tcp.ensures.heard

pub returns-in-Tcp-clause-broken : goal.returns-in-Tcp-clause-broken
returns-in-Tcp-clause-broken g c = λ exchange ended way is. inr (cut_off_tcp g.S.ReadySocket.sent g.S.ReadySocket.failed exchange _ (rw c.in-Tcp.is at way))
