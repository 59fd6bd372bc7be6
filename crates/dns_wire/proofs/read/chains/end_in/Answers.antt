use Rattle.std.proofs.Common.{refl}
use Rattle.dns_wire.specs.Read.Chains.{there}
use Rattle.dns_wire.proofs.read.chains.end_in.Goals as goal

pub returns-in-None : goal.returns-in-None
returns-in-None c = there refl

pub returns-in-None-2 : goal.returns-in-None-2
returns-in-None-2 c = there refl
