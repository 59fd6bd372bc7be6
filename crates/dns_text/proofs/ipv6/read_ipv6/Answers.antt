use Rattle.dns_text.proofs.Ipv6Reading.{some_stands, all_read_is}
use Rattle.dns_text.proofs.ipv6.read_ipv6.Goals as goal

pub returns-clause-stands : goal.returns-clause-stands
returns-clause-stands c = some_stands c.args.text.now _ c.parse_ipv6.ensures

pub returns-clause-every : goal.returns-clause-every
returns-clause-every c = all_read_is c.args.text.now _ c.parse_ipv6.ensures
