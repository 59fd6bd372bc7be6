use Rattle.std.proofs.Common.{sym, subst}
use Rattle.dns_text.specs.Addr.{IpReads}
use Rattle.dns_text.proofs.AddrLaws.{v4_reads, v6_reads}
use Rattle.dns_text.proofs.addr.push_ip.Goals as goal

pub returns-in-V4-clause-reads : goal.returns-in-V4-clause-reads
returns-in-V4-clause-reads c = subst IpReads (sym c.in-V4.is) (v4_reads _ (record { long = c.push_ipv4.ensures.length; fits = c.push_ipv4.ensures.octets }))

pub returns-in-V6-clause-reads : goal.returns-in-V6-clause-reads
returns-in-V6-clause-reads c = subst IpReads (sym c.in-V6.is) (v6_reads _ (record { long = c.push_ipv6.ensures.length; fits = c.push_ipv6.ensures.octets }))
