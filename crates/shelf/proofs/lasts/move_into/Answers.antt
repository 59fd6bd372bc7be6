use Rattle.std.proofs.Common.{◌≡◌, ◌+◌, ◌-◌, ◌/◌, ℕ, List, length, sym, ap, ◌∙◌, subst, arith}
use Rattle.std.proofs.lemmas.List.{get_or_default}
use Rattle.shelf.specs.Lasts.{winner_at}
use Rattle.shelf.proofs.GoneLaws.{all_moved, move_first, move_on, move_past, IsMovingInto}
use Rattle.shelf.proofs.lasts.move_into.Goals as goal
use Rattle.shelf.proofs.lasts.move_into.Goals.{then-index-last, else-index-last}

pub loop-node-init : goal.loop-node-init
loop-node-init c = move_first c.args.place c.args.winners.now.items c.requires.low c.requires.within

pub loop-node-preserved : goal.loop-node-preserved
loop-node-preserved c =
    let is = c.loop-node.invariant in
    let old = c.args.winners.now.items in
    let winners = c.loop-node.winners.items in
    let node = c.loop-node.node in
    let here : (node - 1) + 1 ≡ node = omega (arith, c.loop-node-test.true) in
    let last : c.len-last.result ≡ length old = omega (arith, c.len-last.ensures, c.args.winners.now.ok.0) in
    let own : winner_at winners (node - 1) ≡ c.index.result.now = sym (c.index.ensures ∙ get_or_default winners (node - 1) c.index.result.now 0 (omega (arith, is.low, here))) in
    elim c.if-index-last.branch [
      | then-index-last w ↦
          subst (λ (l : List ℕ). IsMovingInto c.args.place old l (node / 2)) (sym (ap (λ v. v.items) w.winners-is))
          (move_on c.args.place old winners node (node - 1) here is (own ∙ (w.if-index-last.true ∙ last)))
      | else-index-last w ↦
          subst (λ (l : List ℕ). IsMovingInto c.args.place old l (node / 2)) (sym (ap (λ v. v.items) w.winners-is))
          (move_past c.args.place old winners node (node - 1) here is (λ at. w.if-index-last.false (sym own ∙ (at ∙ sym last))))
    ]

pub returns-clause-moved : goal.returns-clause-moved
returns-clause-moved c = all_moved c.args.place c.args.winners.now.items c.loop-node.winners.items c.loop-node.node (omega (arith, c.loop-node-test.false)) c.loop-node.invariant
