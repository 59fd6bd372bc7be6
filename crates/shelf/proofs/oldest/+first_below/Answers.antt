use Rattle.std.proofs.Common.{◌≤◌, length, arith}
use Rattle.shelf.proofs.FirstLaws.{ahead, joined, past}
use Rattle.shelf.proofs.oldest.+first_below.Goals as goal
use Rattle.shelf.proofs.oldest.+first_below.Goals.{then-node-len-via-then-node-len, then-node-len-via-else-node-len+then-is_ahead}

pub returns-then-node-len : goal.returns-then-node-len
returns-then-node-len t c = elim c.then-node-len.branch [
  | then-node-len-via-then-node-len w ↦
      let high : length c.args.owners.now.entries ≤ c.args.node = omega (arith, w.if-node-len.true, c.len.ensures.len) in
      past c.args.settlings.now c.args.kept.now c.args.owners.now.entries c.args.moment c.args.node c.args.best high c.requires.best
  | then-node-len-via-else-node-len+then-is_ahead w ↦
      ahead c.args.settlings.now c.args.kept.now c.args.owners.now.entries c.args.moment c.args.ends.now c.args.node c.args.best c.requires.bounds (w.is_ahead.ensures w.if-is_ahead.true) c.requires.best
]

pub returns : goal.returns
returns t c =
    joined c.args.settlings.now c.args.kept.now c.args.owners.now.entries c.args.moment c.args.node c.children-near.result.0 c.children-near.result.1 c.args.best c.first_of_least-first.result c.first_below-second.result c.first_below-third.result c.first_at.result
    c.children-near.ensures c.first_of_least-first.ensures c.first_below-second.ensures c.first_below-third.ensures c.first_at.ensures
