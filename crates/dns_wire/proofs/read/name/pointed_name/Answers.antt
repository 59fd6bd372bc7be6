use Rattle.std.proofs.Common.{sym, arith}
use Rattle.dns_wire.proofs.NameLaws.{first_pointed}
use Rattle.dns_wire.proofs.read.name.pointed_name.Goals as goal

pub returns-in-Pointer : goal.returns-in-Pointer
returns-in-Pointer c =
    let here = rw (c.split_at.ensures.front, c.as_slice.ensures) at (sym c.in-Pointer.ensures) in
    first_pointed c.in-Some.ensures here (omega arith) (omega arith)
