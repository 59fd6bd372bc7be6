use Rattle.std.proofs.Common.{ap, length, arith}
use Rattle.dns_name.proofs.OctetLaws.{length-spelled_reverse}
use Rattle.dns_name.proofs.name.Name.wire_len.Goals as goal

pub returns-clause-len : goal.returns-clause-len
returns-clause-len c = omega (arith, ap length c.octets.ensures.value, length-spelled_reverse c.args.self.now)
