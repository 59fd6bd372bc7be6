use Rattle.std.proofs.Common.{Vec, Bool, Global, List, ℕ, ap, ◌∙◌, subst, sym}
use Rattle.std.proofs.Math.ListN.{set}
use Rattle.shelf.specs.Clean.{evens_of, sure, zeros_to, IsLower}
use Rattle.shelf.proofs.DoubtLaws.{lower_put}
use Rattle.shelf.proofs.EvenLaws.{evens_put}
use Rattle.shelf.proofs.ends.put.Goals as goal

pub returns-clause-unmixed : goal.returns-clause-unmixed
returns-clause-unmixed c =
    let was = c.args.ends.now in
    let same = c.clear_doubt.ensures.same in
    (λ i. evens_of ((same.0 ∙ c.set.ensures) i) (ap (λ (v : Vec Bool Global). v.items) same.1 i)) ∙ evens_put was.moments was.mixed.items c.args.place c.args.end c.args.mixed c.requires.flags

pub returns-clause-sure : goal.returns-clause-sure
returns-clause-sure c =
    let was = c.args.ends.now in
    let now = c.clear_doubt.new.ends in
    subst (λ (l : List ℕ). IsLower (set (sure was) c.args.place c.args.end) (zeros_to now.left l)) (sym (c.clear_doubt.ensures.same.0 ∙ c.set.ensures))
    (lower_put was.moments c.args.place c.args.end was.left now.left c.requires.low c.clear_doubt.ensures.left.0)

pub returns-clause-left : goal.returns-clause-left
returns-clause-left c = c.clear_doubt.ensures.left.1
