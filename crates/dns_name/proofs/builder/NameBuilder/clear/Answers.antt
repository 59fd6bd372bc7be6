use Rattle.dns_name.proofs.BufferLaws.{building_nothing, labels_of_nothing}
use Rattle.dns_name.proofs.builder.NameBuilder.clear.Goals as goal

pub invariant_of-self : goal.invariant_of-self
invariant_of-self c = building_nothing _ c.self.told

pub returns : goal.returns
returns c = labels_of_nothing _ c.self.told
