use Rattle.std.proofs.Common.{sym, subst, arith}
use Rattle.dns_wire.specs.Read.Chains.{PointersLead, back}
use Rattle.dns_wire.proofs.Following.{leads_back}
use Rattle.dns_wire.proofs.read.chains.note_of.Goals as goal

pub overflow_add-result : goal.overflow_add-result
overflow_add-result c = omega (arith, leads_back c.end_in.ensures)

pub overflow_cast-result : goal.overflow_cast-result
overflow_cast-result c = omega (arith, leads_back c.end_in.ensures)

pub returns-in-Pointer : goal.returns-in-Pointer
returns-in-Pointer c = λ some. subst (PointersLead c.args.octets.now c.args.at) (omega arith) (back (sym c.in-Pointer.ensures) (omega arith) c.end_in.ensures)
