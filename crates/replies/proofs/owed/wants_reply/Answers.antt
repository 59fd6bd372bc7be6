use Rattle.std.proofs.Common.{refl, arith}
use Rattle.dns_wire.specs.Server.Asking.{no_header}
use Rattle.replies.proofs.Asked.{first_bit}
use Rattle.replies.proofs.owed.wants_reply.Goals as goal

pub returns-then-octets-lt-HEADER_OCTETS : goal.returns-then-octets-lt-HEADER_OCTETS
returns-then-octets-lt-HEADER_OCTETS c = no_header c.if-octets-lt-HEADER_OCTETS.true

pub returns : goal.returns
returns c = first_bit c.args.octets.now _ c.if-octets-lt-HEADER_OCTETS.false refl (omega (arith, c.type_inv.octets 2)) (omega (arith, c.type_inv.octets 3))
