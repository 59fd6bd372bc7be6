use Rattle.std.proofs.Common.{◌≡◌, ◌+◌, ◌<◌, ◌≤◌, ℕ, List, [], true, false, length, get_or, Some, sym, ap, ◌∙◌, subst, arith}
use Rattle.std.specs.Prelude.{slice_get, IfSome}
use Rattle.std.specs.Map.{keys_of}
use Rattle.std.proofs.Math.ListN.{length-set}
use Rattle.dns_name.specs.Labels.{Labels}
use Rattle.cell_store.specs.declared.owner.OwnerCells.{OwnerCells}
use Rattle.cell_store.specs.Count.{count_of}
use Rattle.cell_store.specs.Store.{AreSameCells, IsDroppedAt}
use Rattle.shelf.specs.declared.lasts.Lasts.{Lasts}
use Rattle.shelf.specs.Lasts.{IsShaped}
use Rattle.shelf.specs.Sweep.{count_ended}
use Rattle.shelf.proofs.DropLaws.{dropped_reached, ends_gone, gone_at, same_reached, swapped_size}
use Rattle.shelf.proofs.EndLaws.{ends_put}
use Rattle.shelf.proofs.ListLaws.{get_some}
use Rattle.shelf.proofs.NamedLaws.{each_gone, each_kept}
use Rattle.shelf.proofs.SettlingLaws.{same_length}
use Rattle.shelf.proofs.SweepLaws.{gain_twice, less_left}
use Rattle.shelf.proofs.VisitLaws.{ended_drop, ended_fewer, ended_more}
use Rattle.shelf.proofs.WinnerLaws.{alike, shaped_same}
use Rattle.shelf.proofs.settling.drop_or_end.Goals as goal

pub drop_at-requires : goal.drop_at-requires
drop_at-requires c = record { low = omega (arith, c.requires.low, c.requires.size.0); flags = c.requires.size.1 }

pub put-requires : goal.put-requires
put-requires c = record { low = omega (arith, c.requires.low, c.requires.size.0); flags = c.requires.size.1 }

pub swap_remove-requires : goal.swap_remove-requires
swap_remove-requires c = record {
  shape = shaped_same c.args.ends.now.lasts c.drop_at.new.ends.lasts c.drop_at.ensures.by.lasts c.requires.size.3;
  low = omega (arith, ap length c.drop_at.ensures.by.lasts.0, c.requires.size.2, c.requires.low);
}

-- the name goes
pub returns-then-drop_if_uncounted-clause-tidied : goal.returns-then-drop_if_uncounted-clause-tidied
returns-then-drop_if_uncounted-clause-tidied c =
    let olds = c.args.owners.now.entries in
    let news = c.drop_if_uncounted.new.owners in
    let place = c.args.place in
    let gone : IsDroppedAt place c.args.owners.now.entries c.drop_if_uncounted.new.owners.entries true =
    subst (λ b. IsDroppedAt c.args.place c.args.owners.now.entries c.drop_if_uncounted.new.owners.entries b) c.if-drop_if_uncounted.true c.drop_if_uncounted.ensures.entries in
    let there : slice_get c.args.owners.now.entries c.args.place ≡ Some (get_or c.args.owners.now.entries c.args.place gone.0) = get_some olds place gone.0 c.requires.low in
    record {
      cells = c.drop_if_uncounted.ensures.cells;
      gains = (less_left [] 0 c.args.owners.now news c.drop_if_uncounted.ensures.cells c.drop_if_uncounted.ensures.left).gains;
      counted = c.drop_if_uncounted.ensures.counted;
      reached = λ zone number left is.
          dropped_reached c.args.owners.now news place (get_or olds place gone.0) gone.0 c.requires.low there gone.1 c.drop_if_uncounted.ensures.cells
          (gone_at olds news place (get_or olds place gone.0) c.drop_if_uncounted.result there c.if-drop_if_uncounted.true c.drop_if_uncounted.ensures.gone) zone number left is;
      ends = λ kept before stay is.
          let low : c.args.place < length before = omega (arith, c.requires.low, same_length before c.args.owners.now.entries stay.names) in
          ends_gone before olds news.entries place gone.0 low stay.others stay.names gone.1 kept c.args.ends.now c.drop_at.new.ends c.swap_remove.new.self
          c.drop_at.ensures.by c.swap_remove.ensures.ends c.swap_remove.ensures.winners is;
      named = λ before stay each.
          let size = same_length before c.args.owners.now.entries stay.names in
          let low : c.args.place < length before = omega (arith, c.requires.low, size) in
          each_gone before olds news.entries c.args.ends.now.moments place gone.0 low stay.others stay.names gone.1 (c.requires.size.0 ∙ size) each;
      size =
          let names = swapped_size c.args.owners.now.entries c.args.place gone.0 in
          let moments = swapped_size c.args.ends.now.moments c.args.place 0 in
          let seconds = swapped_size c.drop_at.new.ends.lasts.ends.items c.args.place 0 in (
            omega (arith, ap length gone.1, names, ap length c.drop_at.ensures.by.moments, moments, c.requires.size.0),
            c.drop_at.ensures.by.flags,
            omega (arith, ap length gone.1, names, ap length c.swap_remove.ensures.ends, seconds, ap length c.drop_at.ensures.by.lasts.0, c.requires.size.2),
            c.swap_remove.ensures.shape,
          );
    }

pub returns-then-drop_if_uncounted-clause-ended : goal.returns-then-drop_if_uncounted-clause-ended
returns-then-drop_if_uncounted-clause-ended c = (
  (λ t.
      let by = ended_drop t c.args.ends.now.moments c.args.place (omega (arith, c.requires.low, c.requires.size.0)) in
      let now = ap (count_ended t) c.drop_at.ensures.by.moments in
      (omega (arith, by.0, now), omega (arith, by.1, now))),
  c.drop_at.ensures.left,
)

-- it stays
pub drop_empty_at-requires : goal.drop_empty_at-requires
drop_empty_at-requires c =
    let stays : IsDroppedAt c.args.place c.args.owners.now.entries c.drop_if_uncounted.new.owners.entries false =
    subst (λ b. IsDroppedAt c.args.place c.args.owners.now.entries c.drop_if_uncounted.new.owners.entries b) c.if-drop_if_uncounted.false c.drop_if_uncounted.ensures.entries in
    let less = less_left [] 0 c.args.owners.now c.drop_if_uncounted.new.owners c.drop_if_uncounted.ensures.cells c.drop_if_uncounted.ensures.left in
    record { low = omega (arith, c.requires.low, ap length stays.0); top = (c.requires.top.0, less.gains.upto c.requires.top.0 c.requires.top.1) }

pub returns-clause-tidied : goal.returns-clause-tidied
returns-clause-tidied c =
    let olds = c.args.owners.now in
    let middle = c.drop_if_uncounted.new.owners in
    let news = c.drop_empty_at.new.owners in
    let place = c.args.place in
    let stays : IsDroppedAt c.args.place c.args.owners.now.entries c.drop_if_uncounted.new.owners.entries false =
    subst (λ b. IsDroppedAt c.args.place c.args.owners.now.entries c.drop_if_uncounted.new.owners.entries b) c.if-drop_if_uncounted.false c.drop_if_uncounted.ensures.entries in
    let less = less_left [] 0 olds middle c.drop_if_uncounted.ensures.cells c.drop_if_uncounted.ensures.left in
    let names = c.drop_empty_at.ensures.entries.names ∙ ap keys_of stays.0 in
    let cells : AreSameCells c.args.owners.now c.drop_empty_at.new.owners = λ q v. c.drop_empty_at.ensures.cells q v ∙ c.drop_if_uncounted.ensures.cells q v in
    record {
      cells = cells;
      gains = gain_twice olds middle news less.gains c.drop_empty_at.ensures.gains;
      counted = c.drop_empty_at.ensures.counted ∙ c.drop_if_uncounted.ensures.counted;
      reached = λ zone number left is. same_reached olds news names cells zone number left is;
      ends = λ kept before stay is.
          let low : c.args.place < length before = omega (arith, c.requires.low, same_length before c.args.owners.now.entries stay.names) in
          ends_put kept before news.entries c.args.ends.now c.put.new.ends place is
          (λ i off. c.drop_empty_at.ensures.entries.others i off ∙ (ap (λ (l : List (Labels × OwnerCells)). slice_get l i) stays.0 ∙ stay.others i off)) (names ∙ stay.names) low
          (record { moments = c.put.ensures.moments; unmixed = c.put.ensures.unmixed; sure = c.put.ensures.sure; left = c.put.ensures.left.0; flags = c.put.ensures.flags; lasts = alike c.put.new.ends.lasts c.args.ends.now.lasts c.put.ensures.lasts });
      named = λ before stay each.
          let size = same_length before c.drop_empty_at.new.owners.entries (names ∙ stay.names) in
          let low : c.args.place < length before = omega (arith, c.requires.low, same_length before c.args.owners.now.entries stay.names) in
          let some = subst (λ (l : List (Labels × OwnerCells)). IfSome (slice_get l c.args.place) (λ e. 1 ≤ count_of e.1)) (sym stays.0) stays.1 in
          each_kept before news.entries c.args.ends.now.moments place (c.requires.size.0 ∙ same_length before c.args.owners.now.entries stay.names)
          (λ i off. c.drop_empty_at.ensures.entries.others i off ∙ (ap (λ (l : List (Labels × OwnerCells)). slice_get l i) stays.0 ∙ stay.others i off)) size low (c.drop_empty_at.ensures.used some) each;
      size =
          let same = same_length c.args.owners.now.entries c.drop_empty_at.new.owners.entries names in (
            ap length c.put.ensures.moments ∙ (length-set c.args.ends.now.moments place 0 ∙ (c.requires.size.0 ∙ sym same)),
            c.put.ensures.flags,
            ap (λ (l : Lasts). length l.ends.items) c.put.ensures.lasts ∙ (c.requires.size.2 ∙ sym same),
            subst (λ (l : Lasts). IsShaped l) (sym c.put.ensures.lasts) c.requires.size.3,
          );
    }

pub returns-clause-ended : goal.returns-clause-ended
returns-clause-ended c = (
  (λ t.
      let low : c.args.place < length c.args.ends.now.moments = omega (arith, c.requires.low, c.requires.size.0) in
      let more = subst (λ (l : List ℕ). count_ended t l ≤ count_ended t c.args.ends.now.moments + 1) (sym c.put.ensures.moments) (ended_more t c.args.ends.now.moments c.args.place 0 low) in
      let fewer = subst (λ (l : List ℕ). count_ended t c.args.ends.now.moments ≤ count_ended t l + 1) (sym c.put.ensures.moments) (ended_fewer t c.args.ends.now.moments c.args.place 0 low) in
      (omega (arith, more), omega (arith, fewer))),
  c.put.ensures.left,
)
