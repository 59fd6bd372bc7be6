use Rattle.std.proofs.Common.{ℕ, List, refl}
use Rattle.std.specs.Prelude.{min}
use Rattle.harvest.specs.Harvest.{finds_in}
use Rattle.harvest.specs.Chosen.{chosen_in}
use Rattle.neg_rule.specs.Negative.{said_by}
use Rattle.iterate.specs.Room.{allowed_for}
use Rattle.iterate.proofs.Lists.{contains_first}
use Rattle.iterate.proofs.laws.admission_law.Goals as goal

pub returns : goal.returns
returns c = λ port log find h.
    let among = contains_first (min 64 (allowed_for h.says h.allowance)) (chosen_in h.message h.question h.zone) _ (said_by find) refl h.among in
    c.chosen_law.ensures.small (finds_in h.message h.question h.zone) (said_by find) among
