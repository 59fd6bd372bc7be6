use Rattle.std.proofs.Common.{subst, sym}
use Rattle.dns_query.specs.declared.over.Over.{Over}
use Rattle.dns_query.specs.declared.over.Over.TheVariants.{Udp}
use Rattle.outside.specs.Pauses.{Closes, NotesBroken}
use Rattle.outside.proofs.noting.note_broken.Goals as goal

pub returns-in-Udp : goal.returns-in-Udp
returns-in-Udp c =
    let old = c.args.pauses.now in
    let new = c.note_closed.new.self in
    let closes : Closes c.args.server.now Udp c.args.now old new = subst (λ (o : Over). Closes c.args.server.now o c.args.now old new) c.in-Udp.is c.note_closed.ensures in
    subst (λ (o : Over). NotesBroken o c.args.server.now c.args.now old new) (sym c.in-Udp.is) closes
