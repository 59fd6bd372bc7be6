use Rattle.dns_name.proofs.FaultLaws.{gives_first_fault}
use Rattle.dns_name.proofs.ReadLaws.{gives_named, gives_no_name}
use Rattle.dns_name.proofs.name.Name.from_text.Goals as goal

pub returns-clause-value : goal.returns-clause-value
returns-clause-value c = gives_named _ _ c.parse_name.ensures

pub returns-clause-only : goal.returns-clause-only
returns-clause-only c = gives_no_name _ _ c.parse_name.ensures

pub returns-clause-first : goal.returns-clause-first
returns-clause-first c = gives_first_fault _ _ c.parse_name.ensures
