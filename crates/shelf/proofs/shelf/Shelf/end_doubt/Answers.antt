use Rattle.std.proofs.Common.{◌≡◌, ◌∙◌, true, false, refl, sym, arith}
use Rattle.std.proofs.lemmas.Bool.{false≢true}
use Rattle.std.proofs.lemmas.Grind.{common_steps}
use Rattle.shelf.specs.Settling.{ends_first}
use Rattle.shelf.proofs.shelf.Shelf.end_doubt.Goals as goal

pub returns-then-ends_first-clause-ended : goal.returns-then-ends_first-clause-ended
returns-then-ends_first-clause-ended c =
    let first : ends_first c.args.self.now.settlings.items ≡ true = grind (arith, common_steps) in
    (λ on. c.reach_names.ensures.left, λ off. absurd (false≢true (sym off ∙ first)))

pub returns-else-ends_first-clause-loses : goal.returns-else-ends_first-clause-loses
returns-else-ends_first-clause-loses c = record {
  whole = c.requires.whole;
  flushes = (refl, refl, refl);
  stored = omega arith;
  pairs = λ pair has. has;
}

pub returns-else-ends_first-clause-cells : goal.returns-else-ends_first-clause-cells
returns-else-ends_first-clause-cells c = λ q v. refl

pub returns-else-ends_first-clause-ended : goal.returns-else-ends_first-clause-ended
returns-else-ends_first-clause-ended c =
    let first : ends_first c.args.self.now.settlings.items ≡ false = grind (arith, common_steps) in
    (λ on. absurd (false≢true (sym first ∙ on)), λ off. refl)
