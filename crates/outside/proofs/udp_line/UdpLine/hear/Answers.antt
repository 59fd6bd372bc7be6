use Rattle.std.proofs.Common.{refl, rules, take}
use Rattle.outside.specs.Datagrams.{UdpState}
use Rattle.outside.proofs.Striking.{counted, ends_by}
use Rattle.outside.proofs.udp_line.UdpLine.hear.Goals as goal

pub returns-else-fits-clause-misfits : goal.returns-else-fits-clause-misfits
returns-else-fits-clause-misfits g c =
    let octets = take c.in-Ok.count c.take_datagram.new.room in
    let socket = g.S.ReadySocket in
    let before : UdpState _ = record { socket = c.self.inside.socket; misfits = c.self.inside.misfits } in
    let taken : UdpState _ = record { socket = c.take_datagram.new.self; misfits = c.self.inside.misfits } in
    rw (← c.self.view_is) (ends_by socket.came socket.takes socket.reported_again c.args.token c.args.query.now octets before taken c.strike.new.self c.strike.result c.in-Ok.ensures.came c.in-Ok.ensures.takes (search rules) refl c.strike.ensures.kept c.strike.ensures.heard)

pub returns-else-fits-clause-nothing : goal.returns-else-fits-clause-nothing
returns-else-fits-clause-nothing g c =
    let octets = take c.in-Ok.count c.take_datagram.new.room in
    let socket = g.S.ReadySocket in
    let before : UdpState _ = record { socket = c.self.inside.socket; misfits = c.self.inside.misfits } in
    let taken : UdpState _ = record { socket = c.take_datagram.new.self; misfits = c.self.inside.misfits } in
    rw (← c.self.view_is) (counted socket.came socket.takes socket.reported_again c.args.token c.args.query.now octets before taken c.strike.new.self socket.drained socket.interrupted c.strike.result c.in-Ok.ensures.came c.in-Ok.ensures.takes (search rules) refl c.strike.ensures.kept c.strike.ensures.heard)
