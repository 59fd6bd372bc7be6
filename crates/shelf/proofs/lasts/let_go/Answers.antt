use Rattle.std.proofs.Common.{◌≡◌, ◌+◌, ◌-◌, ◌/◌, ℕ, List, length, sym, ap, ◌∙◌, subst, arith}
use Rattle.std.proofs.lemmas.List.{get_or_default}
use Rattle.shelf.specs.Lasts.{winner_at, IsNodeOrWinner, IsWinner}
use Rattle.shelf.proofs.GoneLaws.{go_first, go_on, go_past, let_gone, IsLettingGo}
use Rattle.shelf.proofs.lasts.let_go.Goals as goal
use Rattle.shelf.proofs.lasts.let_go.Goals.{then-index-last, else-index-last}

pub loop-node-init : goal.loop-node-init
loop-node-init c =
    let last : c.len-last.result ≡ length c.args.winners.now.items = omega (arith, c.len-last.ensures, c.args.winners.now.ok.0) in
    go_first c.args.owners.now.entries c.args.lasts.now c.args.winners.now.items c.len-last.result last c.requires.within

pub loop-node-preserved : goal.loop-node-preserved
loop-node-preserved c =
    let is = c.loop-node.invariant in
    let entries = c.args.owners.now.entries in
    let lasts = c.args.lasts.now in
    let old = c.args.winners.now.items in
    let winners = c.loop-node.winners.items in
    let node = c.loop-node.node in
    let here : (node - 1) + 1 ≡ node = omega (arith, c.loop-node-test.true) in
    let last : c.len-last.result ≡ length old = omega (arith, c.len-last.ensures, c.args.winners.now.ok.0) in
    let own : winner_at winners (node - 1) ≡ c.index.result.now = sym (c.index.ensures ∙ get_or_default winners (node - 1) c.index.result.now 0 (omega (arith, is.low, here))) in
    elim c.if-index-last.branch [
      | then-index-last w ↦
          let v = w.winner.result in
          subst (λ (l : List ℕ). IsLettingGo entries lasts old l (node / 2)) (sym (ap (λ v. v.items) w.winners-is))
          (go_on entries lasts old winners node (node - 1) here is v (own ∙ (w.if-index-last.true ∙ last))
          (subst (λ (l : List ℕ). IsWinner entries lasts l (node - 1) v) w.deref.ensures.value w.winner.ensures.right)
          (subst (λ (l : List ℕ). IsNodeOrWinner l (node - 1) v) w.deref.ensures.value w.winner.ensures.one))
      | else-index-last w ↦
          subst (λ (l : List ℕ). IsLettingGo entries lasts old l (node / 2)) (sym (ap (λ v. v.items) w.winners-is))
          (go_past entries lasts old winners node (node - 1) here is (λ at. w.if-index-last.false (sym own ∙ (at ∙ sym last))))
    ]

pub returns-clause-right : goal.returns-clause-right
returns-clause-right c =
    let_gone c.args.owners.now.entries c.args.lasts.now c.args.winners.now.items c.loop-node.winners.items c.loop-node.node (omega (arith, c.loop-node-test.false)) c.loop-node.invariant
