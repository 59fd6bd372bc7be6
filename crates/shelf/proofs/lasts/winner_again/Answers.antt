use Rattle.std.proofs.Common.{sym, ◌∙◌, arith}
use Rattle.shelf.proofs.AgainLaws.{anew, stays, stays_behind, takes}
use Rattle.shelf.proofs.lasts.winner_again.Goals as goal
use Rattle.shelf.proofs.lasts.winner_again.Goals.{then-first-changed, else-first-changed}

pub returns-then-was-changed-clause-right : goal.returns-then-was-changed-clause-right
returns-then-was-changed-clause-right c = λ ready. anew c.args.owners.now.entries c.args.lasts.now c.args.winners.now c.args.node c.args.changed c.args.first ready c.winner.result c.winner.ensures.right

pub returns-then-leads-clause-right : goal.returns-then-leads-clause-right
returns-then-leads-clause-right c = elim c.if-first-changed.branch [
  | then-first-changed w ↦ λ ready. stays_behind c.args.owners.now.entries c.args.lasts.now c.args.winners.now c.args.node c.args.changed c.args.first ready c.if-was-changed.false w.if-first-changed.true
  | else-first-changed w ↦ λ ready.
      stays c.args.owners.now.entries c.args.lasts.now c.args.winners.now c.args.node c.args.changed c.args.first ready c.if-was-changed.false
      (w.leads.ensures.yes (sym w.value-is ∙ c.if-leads.true))
]

pub returns-else-leads-clause-right : goal.returns-else-leads-clause-right
returns-else-leads-clause-right c = elim c.if-first-changed.branch [
  | then-first-changed w ↦ let no : ⊥ = grind (arith, w.value-is, c.if-leads.false, w.if-first-changed.true) in absurd no
  | else-first-changed w ↦ λ ready.
      takes c.args.owners.now.entries c.args.lasts.now c.args.winners.now c.args.node c.args.changed c.args.first ready c.if-was-changed.false
      (w.leads.ensures.no (sym w.value-is ∙ c.if-leads.false))
]
