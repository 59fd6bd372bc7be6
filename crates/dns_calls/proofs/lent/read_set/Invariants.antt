use Rattle.std.specs.List.{AllByRecursion}
use Rattle.dns_text.specs.Data.{HasForm}
use Rattle.dns_calls.proofs.lent.read_set.Given as goal

abbrev pub invariant-loop-text : goal.invariant-loop-text
invariant-loop-text l = record {
  formed : AllByRecursion (HasForm l.kind) l.data.items;
}
