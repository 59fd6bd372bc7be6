use Rattle.std.proofs.Common.{◌+◌, ℕ, List, ap, sym, subst, ◌∙◌, arith}
use Rattle.dns_text.specs.declared.record.Record.{Record}
use Rattle.local_zone.specs.CountsBelow.{counted}
use Rattle.local_zone.specs.Index.{IsGrouped}
use Rattle.local_zone.proofs.GroupLaws.{grouped_swapped}
use Rattle.local_zone.proofs.Keyed.{items, octets}
use Rattle.local_zone.proofs.join.join.Goals as goal

pub returns-clause-index : goal.returns-clause-index
returns-clause-index c records h =
    subst (λ es. IsGrouped octets items records es) (sym (ap (λ m. m.entries) c.swap.ensures.x_after))
    (c.in_ok-move_all.ensures.index records (grouped_swapped octets items c.args.groups.now.entries c.args.owners.now.entries c.requires records h))

pub returns-clause-counts : goal.returns-clause-counts
returns-clause-counts c name = omega (arith, ap {B = ℕ} (λ (cs : List (List ℕ × ℕ)). counted name cs) c.swap-2.ensures.x_after, c.in_ok-move_all.ensures.counts name)

pub returns-clause-moved : goal.returns-clause-moved
returns-clause-moved c = (ap (λ m. m.entries) c.swap.ensures.y_after ∙ c.in_ok-move_all.ensures.moved.0, c.swap-2.ensures.y_after ∙ c.in_ok-move_all.ensures.moved.1)
