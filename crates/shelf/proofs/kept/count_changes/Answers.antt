use Rattle.std.proofs.Common.{◌≡◌, ◌+◌, ◌<◌, true, false, take, sym, ◌∙◌, subst, length, arith}
use Rattle.ranked.specs.Flush.{covers}
use Rattle.cell_store.specs.Same.{same_cell}
use Rattle.shelf.specs.Settling.{settled_cell}
use Rattle.shelf.specs.Sweep.{numbers_of}
use Rattle.shelf.proofs.KeptCellsLaws.{IsCounted, step_none, step_other, step_same}
use Rattle.shelf.proofs.kept.count_changes.Goals as goal
use Rattle.shelf.proofs.kept.count_changes.Goals.{then-covers+then-not-is_alike, else-covers, else-covers-via-then-covers+else-not-is_alike, else-covers-via-else-covers}

pub loop-own-preserved : goal.loop-own-preserved
loop-own-preserved c =
    let q = c.args.question.now in
    let f = settled_cell c.args.settlings.now c.args.owners.now q in
    let i = c.loop-own.own-index in
    let kept = c.args.kept.now in
    let own = c.own-item.result in
    let count = c.loop-own.count in
    let last = c.loop-own.last in
    let low : i < length kept = omega arith in
    let was = c.loop-own.invariant.0 in
    elim c.if-covers.branch [
      | then-covers+then-not-is_alike w ↦
          let on : covers own.flush q ≡ true = sym c.covers.ensures ∙ w.if-covers.true in
          let differ : same_cell (f last) (f own.number) ≡ false = sym w.is_alike.ensures ∙ w.if-not-is_alike.true in (
            subst (λ n. IsCounted same_cell f (numbers_of (take (i + 1) kept) q) n c.if-covers.last) (sym w.count-is)
                (subst (λ n. IsCounted same_cell f (numbers_of (take (i + 1) kept) q) (count + 1) n) (sym w.last-is) (step_other same_cell f q kept i own count last low c.own-item.is was on differ)),
            omega (arith, w.count-is, c.loop-own.invariant.1),
          )
      | else-covers w ↦ (
        subst (λ n. IsCounted same_cell f (numbers_of (take (i + 1) kept) q) n c.if-covers.last) (sym w.count-is)
            (subst (λ n. IsCounted same_cell f (numbers_of (take (i + 1) kept) q) count n) (sym w.last-is) (elim w.else-covers.branch [
              | else-covers-via-then-covers+else-not-is_alike v ↦
                  step_same same_cell f q kept i own count last low c.own-item.is was (sym c.covers.ensures ∙ v.if-covers.true) (sym v.is_alike.ensures ∙ v.if-not-is_alike.false)
              | else-covers-via-else-covers v ↦ step_none same_cell f q kept i own count last low c.own-item.is was (sym c.covers.ensures ∙ v.if-covers.false)
            ])),
        omega (arith, w.count-is, c.loop-own.invariant.1),
      )
    ]
