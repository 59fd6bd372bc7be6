use Rattle.dns_name.specs.ListLaws.{all_weaker}
use Rattle.dns_text.specs.String.{AreOctets}
use Rattle.dns_text.specs.Strings.{IsString}
use Rattle.dns_wire.proofs.write.rdata.push_strings.Goals as goal

pub returns-clause-fits : goal.returns-clause-fits
returns-clause-fits c = all_weaker IsString AreOctets (λ _ h. h.each) _ c.octets.ensures.each
