use Rattle.std.proofs.Common.{arith}
use Rattle.dns_name.specs.ListLaws.{octets_all}
use Rattle.dns_text.proofs.string.push_quoted.Goals as goal

pub returns-clause-octets : goal.returns-clause-octets
returns-clause-octets c = octets_all c.args.octets.now (λ i. omega (arith, c.type_inv.octets i))
