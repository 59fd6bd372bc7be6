use Rattle.std.proofs.Common.{◌∙◌}
use Rattle.shelf.proofs.SweepLaws.{lost_twice}
use Rattle.shelf.proofs.sweep.sweep_type.Goals as goal

pub returns-clause-lost : goal.returns-clause-lost
returns-clause-lost c =
    let first = c.sweep_if_even.ensures.lost in
    let then = c.sweep_kind.ensures.lost in
    record {
      others = λ k other. then.others k other ∙ first.others k other;
      kinds = then.kinds ∙ first.kinds;
      whole = then.whole ∙ first.whole;
      lost = lost_twice _ _ _ first.lost then.lost;
    }
