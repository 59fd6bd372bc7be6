use Rattle.std.proofs.Common.{List, ℕ, sym, ap, subst, ◌∙◌}
use Rattle.std.specs.List.{AllByRecursion}
use Rattle.dns_name.specs.Labels.{spelled}
use Rattle.dns_text.specs.Strings.{IsString}
use Rattle.dns_text.proofs.strings.Strings.octets.Goals as goal

pub returns-clause-value : goal.returns-clause-value
returns-clause-value c = c.deref.ensures.value ∙ sym c.self.invariant.spell ∙ ap (λ (x : List (List ℕ)). spelled x) c.self.view_is

pub returns-clause-each : goal.returns-clause-each
returns-clause-each c = subst (AllByRecursion IsString) c.self.view_is c.self.invariant.each
