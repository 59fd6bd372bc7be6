use Rattle.std.proofs.Common.{ap, subst, ◌∙◌}
use Rattle.std.specs.List.{AllByRecursion}
use Rattle.dns_name.specs.Labels.{labels_in}
use Rattle.dns_text.specs.Strings.{IsString}
use Rattle.dns_text.proofs.strings.Strings.iter.Goals as goal

pub invariant_of-result : goal.invariant_of-result
invariant_of-result c = rw c.deref.ensures.value c.self.invariant.spell

pub returns-clause-value : goal.returns-clause-value
returns-clause-value c = ap labels_in c.deref.ensures.value ∙ c.self.view_is

pub returns-clause-each : goal.returns-clause-each
returns-clause-each c = subst (AllByRecursion IsString) c.self.view_is c.self.invariant.each
