use Rattle.std.proofs.Common.{◌≡◌, ℕ, List, length, ◌<◌, subst, ◌∙◌, arith}
use Rattle.std.proofs.lemmas.Bool.Decides.{nat_tests}
use Rattle.std.proofs.lemmas.List.{get_or_default}
use Rattle.winner_tree.specs.Tree.{moment_at, never, AreLater}
use Rattle.winner_tree.proofs.TreeLaws.{root_later}
use Rattle.winner_tree.proofs.tree.WinnerTree.first_ended.Goals as goal

pub returns-then-moment-index-clause-none : goal.returns-then-moment-index-clause-none
returns-then-moment-index-clause-none c =
    let least = c.self.inside.least.items in
    let some : 0 < length least = grind (arith, nat_tests) in
    let root : c.index.result.now ≡ moment_at least 0 = c.index.ensures ∙ get_or_default least 0 c.index.result.now never some in
    let later : c.args.moment < moment_at least 0 = omega arith in
    subst (λ (l : List ℕ). AreLater l c.args.moment) c.self.view_is (root_later c.self.inside.ends.items least c.args.moment c.self.invariant later)
