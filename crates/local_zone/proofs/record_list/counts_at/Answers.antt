use Rattle.std.proofs.Common.{◌≡◌, ◌+◌, ℕ, List, ◌∷◌, cond, drop, get_or, ap, arith, length-drop}
use Rattle.std.proofs.lemmas.List.{at_drop_all, drop_more}
use Rattle.dns_name.specs.Labels.{Labels}
use Rattle.dns_text.specs.declared.record.Record.{Record}
use Rattle.local_zone.specs.CountsBelow.{count_below, is_below}
use Rattle.local_zone.specs.Gaps.{at_gaps, records_of}
use Rattle.local_zone.proofs.CountsAtLaws.{counts_step, record_at, within_here, within_step}
use Rattle.local_zone.proofs.record_list.counts_at.Goals as goal

pub overflow_add-place : goal.overflow_add-place
overflow_add-place c =
    let gaps : List ℕ = c.args.gaps.now in
    let list : List Record = c.args.list.now in
    let i = c.loop-gap.gap-index in
    omega (arith, within_here (drop i gaps) (drop (i + 1) gaps) (get_or gaps i 0) (drop c.loop-gap.place list) (drop_more gaps i 0 (omega arith)) c.loop-gap.invariant.within, length-drop c.loop-gap.place list)

pub bounds-list-place : goal.bounds-list-place
bounds-list-place c =
    let gaps : List ℕ = c.args.gaps.now in
    let list : List Record = c.args.list.now in
    let i = c.loop-gap.gap-index in
    omega (arith, within_here (drop i gaps) (drop (i + 1) gaps) (get_or gaps i 0) (drop c.loop-gap.place list) (drop_more gaps i 0 (omega arith)) c.loop-gap.invariant.within, length-drop c.loop-gap.place list)

pub loop-gap-preserved : goal.loop-gap-preserved
loop-gap-preserved c =
    let gaps : List ℕ = c.args.gaps.now in
    let list : List Record = c.args.list.now in
    let i = c.loop-gap.gap-index in
    let gap = get_or gaps i 0 in
    let rest : List Record = drop c.loop-gap.place list in
    let first : Record = c.index-list-place.result in
    let later : List Record = drop (c.loop-gap.place + gap + 1) list in
    let next : drop i gaps ≡ gap ∷ drop (i + 1) gaps = drop_more gaps i 0 (omega arith) in
    let is : drop gap rest ≡ first ∷ later = record_at list c.loop-gap.place gap first (within_here (drop i gaps) (drop (i + 1) gaps) gap rest next c.loop-gap.invariant.within) c.index-list-place.is in
    record {
      within = within_step (drop i gaps) (drop (i + 1) gaps) gap rest first later next is c.loop-gap.invariant.within;
      all = λ name. omega (
        arith,
        c.in_ok-add.ensures.ok name,
        ap {B = ℕ} (λ (o : Labels). cond (is_below o name) 1 0) c.owner.ensures,
        counts_step (drop i gaps) (drop (i + 1) gaps) gap rest first later next is name,
        c.loop-gap.invariant.all name,
      );
    }

pub returns : goal.returns
returns c name =
    omega (
      arith,
      c.loop-gap.invariant.all name,
      at_drop_all {Y = ℕ} (λ (g : List ℕ). count_below name (records_of (at_gaps g (drop c.loop-gap.place c.args.list.now)))) c.args.gaps.now c.loop-gap.gap-index (omega arith),
    )
