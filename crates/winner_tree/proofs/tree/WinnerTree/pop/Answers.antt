use Rattle.std.proofs.Common.{◌≡◌, ◌+◌, ◌-◌, ℕ, List, length, take, subst, sym, ap, ◌∙◌, arith}
use Rattle.std.proofs.Math.ListN.{set, length-set}
use Rattle.std.proofs.lemmas.List.{get_or-set_same}
use Rattle.winner_tree.specs.Tree.{moment_at, never, IsTree}
use Rattle.winner_tree.proofs.TreeLaws.{popped}
use Rattle.winner_tree.proofs.tree.WinnerTree.pop.Goals as goal

pub invariant_of-self : goal.invariant_of-self
invariant_of-self c =
    let ends = c.self-2.inside.ends.items in
    let last = c.len-last.result - 1 in
    let old : length c.args.self.now ≡ last + 1 = omega (arith, ap (λ (l : List ℕ). length l) c.self.view_is) in
    let is : ends ≡ set c.args.self.now last never = c.self-2.view_is ∙ c.set.ensures in
    let size : length ends ≡ last + 1 = ap length is ∙ (length-set c.args.self.now last never ∙ old) in
    let at : moment_at ends last ≡ never = ap (λ (l : List ℕ). moment_at l last) is ∙ get_or-set_same c.args.self.now last never never (omega arith) in
    let tree : IsTree (take last ends) (take last c.self-2.inside.least.items) = popped ends c.self-2.inside.least.items last c.self-2.invariant size at in
    subst (λ (l : List ℕ). IsTree l c.truncate-2.new.self.items) (sym c.truncate.ensures.items)
    (subst (λ (l : List ℕ). IsTree (take last ends) l) (sym c.truncate-2.ensures.items) tree)
