use Rattle.std.proofs.Common.{◌≡◌}
use Rattle.neg_rule.specs.Alias.{name_after}
use Rattle.neg_rule.proofs.alias.name_after.Given as goal

abbrev pub invariant-loop : goal.invariant-loop
invariant-loop l = l.name ≡ name_after l.answer l.owner l.counter
