use Rattle.std.proofs.Common.{◌≡◌, ℕ, List, subst, sym, ap, ◌∙◌}
use Rattle.winner_tree.specs.Tree.{moment_at, IsBound}
use Rattle.winner_tree.proofs.TreeLaws.{node_bound}
use Rattle.winner_tree.proofs.tree.WinnerTree.least.Goals as goal

pub returns : goal.returns
returns c =
    let ends = c.self.inside.ends.items in
    let least = c.self.inside.least.items in
    let at : c.moment_at.result ≡ moment_at least c.args.node = c.moment_at.ensures ∙ ap (λ (l : List ℕ). moment_at l c.args.node) c.deref.ensures.value in
    subst (λ (l : List ℕ). IsBound l c.args.node c.moment_at.result) c.self.view_is
    (subst (λ n. IsBound ends c.args.node n) (sym at) (node_bound ends least c.args.node c.self.invariant))
