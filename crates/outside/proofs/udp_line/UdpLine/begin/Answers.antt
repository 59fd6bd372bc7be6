use Rattle.std.proofs.Common.{Result, Ok, Err, OnErr, inl, inr}
use Rattle.outside.proofs.udp_line.UdpLine.begin.Goals as goal

failing : {A E : Type 0} (r : Result A E) (P : Type 0) → P → OnErr r P
failing (Ok x) P p = tt
failing (Err e) P p = p

pub returns-in_err-send_datagram-clause-failed : goal.returns-in_err-send_datagram-clause-failed
returns-in_err-send_datagram-clause-failed g c =
    failing c.from_residual-in_err-send_datagram.result _
    (inr (inr (c.send_datagram.new.self, c.send_datagram.ensures.opened _ c.in_ok-socket.ensures.opened, inl c.in_err-send_datagram.ensures.failed)))
