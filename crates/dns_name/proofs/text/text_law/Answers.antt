use Rattle.dns_name.proofs.ReadLaws.{reads_what_stands}
use Rattle.dns_name.proofs.FaultLaws.{tells_the_first_fault}
use Rattle.dns_name.proofs.text.text_law.Goals as goal

pub returns-clause-names : goal.returns-clause-names
returns-clause-names c = reads_what_stands

pub returns-clause-faults : goal.returns-clause-faults
returns-clause-faults c = tells_the_first_fault
