use Rattle.std.proofs.Common.{◌≡◌, ◌++◌, drop}
use Rattle.std.specs.List.{AllByRecursion}
use Rattle.dns_wire.specs.WellFormed.{HasItsForm}
use Rattle.harvest.specs.Counted.{ranked_in}
use Rattle.harvest.proofs.counted.count_section.Given as goal

-- those so far, and those to come
abbrev pub invariant-loop-r : goal.invariant-loop-r
invariant-loop-r l = record {
  so_far : l.out.items ++ ranked_in l.zone (λ r. l.rank) (drop l.r-index l.section) ≡ l.initial.out.items ++ ranked_in l.zone (λ r. l.rank) l.section;
  forms : AllByRecursion HasItsForm (drop l.r-index l.section);
}
