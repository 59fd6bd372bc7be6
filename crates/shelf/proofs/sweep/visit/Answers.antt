use Rattle.std.proofs.Common.{◌≡◌, ◌+◌, ℕ, List, ◌<◌, length, true, false, sym, ap, ◌∙◌, subst, arith}
use Rattle.std.proofs.lemmas.List.{get_or-set_same}
use Rattle.shelf.specs.Lasts.{last_at, IsShaped}
use Rattle.shelf.proofs.DropLaws.{swapped_size}
use Rattle.cell_store.specs.Store.{IsDroppedAt}
use Rattle.shelf.specs.Sweep.{count_ended}
use Rattle.shelf.specs.declared.lasts.Lasts.{Lasts}
use Rattle.shelf.proofs.WinnerLaws.{shaped_same}
use Rattle.shelf.proofs.VisitLaws.{ended_gone, ended_set, later_of, on_gone, on_kept}
use Rattle.shelf.proofs.sweep.visit.Goals as goal

pub drop_at-requires : goal.drop_at-requires
drop_at-requires c = record { low = omega (arith, c.requires.low, c.requires.tallied.size.0); flags = c.requires.tallied.size.1 }

pub put-requires : goal.put-requires
put-requires c = record { low = omega (arith, c.requires.low, c.requires.tallied.size.0); flags = c.requires.tallied.size.1 }

pub swap_remove-requires : goal.swap_remove-requires
swap_remove-requires c = record {
  shape = shaped_same c.args.ends.now.lasts c.drop_at.new.ends.lasts c.drop_at.ensures.by.lasts c.requires.tallied.size.3;
  low = omega (arith, ap length c.drop_at.ensures.by.lasts.0, c.requires.tallied.size.2, c.requires.low);
}

pub set-requires : goal.set-requires
set-requires c = record {
  shape = subst (λ (l : Lasts). IsShaped l) (sym c.put.ensures.lasts) c.requires.tallied.size.3;
  low = omega (arith, ap (λ (l : Lasts). length l.ends.items) c.put.ensures.lasts, c.requires.tallied.size.2, c.requires.low);
}

pub returns-then-drop_if_uncounted-clause-on : goal.returns-then-drop_if_uncounted-clause-on
returns-then-drop_if_uncounted-clause-on c = λ asked most first before small is.
    let gone : IsDroppedAt c.args.place c.sweep_at-end.new.owners.entries c.drop_if_uncounted.new.owners.entries true =
    subst (λ b. IsDroppedAt c.args.place c.sweep_at-end.new.owners.entries c.drop_if_uncounted.new.owners.entries b) c.if-drop_if_uncounted.true c.drop_if_uncounted.ensures.entries in
    on_gone c.args.kept.now c.args.moment c.args.place c.sweep_at-end.result.0 c.sweep_at-end.result.1 c.args.owners.now c.sweep_at-end.new.owners c.drop_if_uncounted.new.owners c.args.ends.now c.drop_at.new.ends c.args.stored.now c.sweep_at-end.new.stored
    c.requires.low c.requires.tallied.size.0 c.sweep_at-end.ensures.swept c.sweep_at-end.ensures.counted c.sweep_at-end.ensures.fewer c.drop_if_uncounted.ensures.cells c.drop_if_uncounted.ensures.left c.drop_if_uncounted.ensures.counted
    c.drop_at.ensures.by gone.0 gone.1 c.swap_remove.new.self c.swap_remove.ensures.ends c.swap_remove.ensures.winners asked most first is

pub returns-then-drop_if_uncounted-clause-ended : goal.returns-then-drop_if_uncounted-clause-ended
returns-then-drop_if_uncounted-clause-ended c = λ asked before small is.
    let low : c.args.place < length c.args.ends.now.moments = omega (arith, c.requires.low, c.requires.tallied.size.0) in
    subst (λ (l : List ℕ). count_ended asked l + 1 ≡ count_ended asked c.args.ends.now.moments) (sym c.drop_at.ensures.by.moments) (ended_gone asked c.args.ends.now.moments c.args.place low is)

pub returns-else-drop_if_uncounted-clause-on : goal.returns-else-drop_if_uncounted-clause-on
returns-else-drop_if_uncounted-clause-on c = λ asked most first before small is.
    let stays : IsDroppedAt c.args.place c.sweep_at-end.new.owners.entries c.drop_if_uncounted.new.owners.entries false =
    subst (λ b. IsDroppedAt c.args.place c.sweep_at-end.new.owners.entries c.drop_if_uncounted.new.owners.entries b) c.if-drop_if_uncounted.false c.drop_if_uncounted.ensures.entries in
    on_kept c.args.kept.now c.args.moment c.args.place c.sweep_at-end.result.0 c.sweep_at-end.result.1 c.args.owners.now c.sweep_at-end.new.owners c.drop_if_uncounted.new.owners c.args.ends.now c.put.new.ends c.args.stored.now c.sweep_at-end.new.stored
    c.requires.low c.requires.tallied.size.0 c.sweep_at-end.ensures.swept c.sweep_at-end.ensures.counted c.sweep_at-end.ensures.fewer c.drop_if_uncounted.ensures.cells c.drop_if_uncounted.ensures.left c.drop_if_uncounted.ensures.counted
    c.put.ensures.moments c.put.ensures.sure c.put.ensures.left.0 c.put.ensures.unmixed c.put.ensures.flags c.put.ensures.lasts stays.0 stays.1 c.set.new.self c.last_end-last.result c.last_end-last.ensures c.set.ensures.ends c.set.ensures.winners asked most first before small is

pub returns-else-drop_if_uncounted-clause-ended : goal.returns-else-drop_if_uncounted-clause-ended
returns-else-drop_if_uncounted-clause-ended c = λ asked before small is.
    let stays : IsDroppedAt c.args.place c.sweep_at-end.new.owners.entries c.drop_if_uncounted.new.owners.entries false =
    subst (λ b. IsDroppedAt c.args.place c.sweep_at-end.new.owners.entries c.drop_if_uncounted.new.owners.entries b) c.if-drop_if_uncounted.false c.drop_if_uncounted.ensures.entries in
    let low : c.args.place < length c.args.ends.now.moments = omega (arith, c.requires.low, c.requires.tallied.size.0) in
    let low' : c.args.place < length c.sweep_at-end.new.owners.entries = omega (arith, c.requires.low, c.sweep_at-end.ensures.swept.size) in
    subst (λ (l : List ℕ). count_ended asked l + 1 ≡ count_ended asked c.args.ends.now.moments) (sym c.put.ensures.moments)
    (ended_set asked c.args.ends.now.moments c.args.place c.sweep_at-end.result.0 low is
    (later_of c.args.kept.now c.args.moment c.args.place c.sweep_at-end.result.0 asked c.sweep_at-end.new.owners.entries low' c.sweep_at-end.ensures.swept.next stays.1 before small))

pub sweep_at-end-requires : goal.sweep_at-end-requires
sweep_at-end-requires c = record { low = c.requires.low; room = c.requires.room; counted = c.requires.tallied.counted; top = c.requires.tallied.top }

pub returns-then-drop_if_uncounted-clause-noted : goal.returns-then-drop_if_uncounted-clause-noted
returns-then-drop_if_uncounted-clause-noted c = λ same.
    let gone : IsDroppedAt c.args.place c.sweep_at-end.new.owners.entries c.drop_if_uncounted.new.owners.entries true =
    subst (λ b. IsDroppedAt c.args.place c.sweep_at-end.new.owners.entries c.drop_if_uncounted.new.owners.entries b) c.if-drop_if_uncounted.true c.drop_if_uncounted.ensures.entries in
    let size = swapped_size c.sweep_at-end.new.owners.entries c.args.place gone.0 in
    absurd (omega (arith, same, size, ap length gone.1, c.sweep_at-end.ensures.swept.size, c.requires.low))

pub returns-else-drop_if_uncounted-clause-noted : goal.returns-else-drop_if_uncounted-clause-noted
returns-else-drop_if_uncounted-clause-noted c = λ same.
    let lasts = c.put.new.ends.lasts in
    let low : c.args.place < length lasts.ends.items = omega (arith, ap (λ (l : Lasts). length l.ends.items) c.put.ensures.lasts, c.requires.tallied.size.2, c.requires.low) in
    ap (λ (l : List ℕ). last_at l c.args.place) c.set.ensures.ends ∙ (get_or-set_same lasts.ends.items c.args.place c.last_end-last.result 0 low ∙ c.last_end-last.ensures)
