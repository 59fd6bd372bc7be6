use Rattle.std.proofs.Math.Seq.{take-length}
use Rattle.dns_wire.proofs.read.name.owner_at.Goals as goal

pub returns-clause-exact : goal.returns-clause-exact
returns-clause-exact c = rw (c.as_slice.ensures, take-length c.args.message.now) at c.name_in.ensures.exact
