use Rattle.std.proofs.Common.{◌≡◌, ◌-◌, ◌++◌, ◌∷◌, [], length, arith}
use Rattle.winner_tree.specs.Tree.{never}
use Rattle.winner_tree.proofs.TreeLaws.{pushed}
use Rattle.winner_tree.proofs.tree.WinnerTree.push.Goals as goal

pub mend-requires-clause-others : goal.mend-requires-clause-others
mend-requires-clause-others c =
    let ends : c.deref.result.now ≡ c.self.inside.ends.items ++ c.args.end ∷ [] = cc in
    let least : c.push_reserved-2.new.self.items ≡ c.self.inside.least.items ++ never ∷ [] = cc in
    let place : c.len-place.result - 1 ≡ length c.self.inside.ends.items = omega arith in
    pushed c.self.inside.ends.items c.self.inside.least.items c.deref.result.now c.push_reserved-2.new.self.items c.args.end (c.len-place.result - 1) c.self.invariant ends least place
