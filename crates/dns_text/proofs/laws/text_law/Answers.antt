use Rattle.dns_text.proofs.DataReading.{reads_data}
use Rattle.dns_text.proofs.Ipv4Reading.{reads_ipv4}
use Rattle.dns_text.proofs.Ipv6Reading.{reads_ipv6}
use Rattle.dns_text.proofs.RecordReading.{reads_records}
use Rattle.dns_text.proofs.StringReading.{reads_strings}
use Rattle.dns_text.proofs.laws.text_law.Goals as goal

pub returns-clause-ipv4 : goal.returns-clause-ipv4
returns-clause-ipv4 c = reads_ipv4

pub returns-clause-ipv6 : goal.returns-clause-ipv6
returns-clause-ipv6 c = reads_ipv6

pub returns-clause-strings : goal.returns-clause-strings
returns-clause-strings c = reads_strings

pub returns-clause-data : goal.returns-clause-data
returns-clause-data c = reads_data c.text_law.ensures.names

pub returns-clause-records : goal.returns-clause-records
returns-clause-records c = reads_records c.text_law.ensures.names
