use Rattle.std.proofs.Common.{[], refl, sym, ◌∙◌, arith}
use Rattle.std.specs.Cmp.Lexicographic.{same_text, other_text}
use Rattle.command_text.proofs.Bars.{onto-pieces, at-bar, past-word, at-end}
use Rattle.command_text.proofs.set_data.cut_at_bar.Goals as goal

pub loop-word-init : goal.loop-word-init
loop-word-init c = ([], refl, sym (onto-pieces c.args.text.now))

pub overflow_sub-result : goal.overflow_sub-result
overflow_sub-result c =
    let so = c.loop-word.invariant in
    let bar = at-bar _ so.0 _ _ _ so.1 so.2 c.in-Some.ensures.value (same_text _ _ c.if-eq.ensures ∙ c.as_slice.ensures) in
    omega (arith, bar.0)

pub slice_bounds-result-count : goal.slice_bounds-result-count
slice_bounds-result-count c =
    let so = c.loop-word.invariant in
    let bar = at-bar _ so.0 _ _ _ so.1 so.2 c.in-Some.ensures.value (same_text _ _ c.if-eq.ensures ∙ c.as_slice.ensures) in
    omega (arith, bar.0)

pub returns-then-eq-clause-cut : goal.returns-then-eq-clause-cut
returns-then-eq-clause-cut c =
    let so = c.loop-word.invariant in
    let bar = at-bar _ so.0 _ _ _ so.1 so.2 c.in-Some.ensures.value (same_text _ _ c.if-eq.ensures ∙ c.as_slice.ensures) in
    bar.1

pub returns-then-eq-clause-shorter : goal.returns-then-eq-clause-shorter
returns-then-eq-clause-shorter c =
    let so = c.loop-word.invariant in
    let bar = at-bar _ so.0 _ _ _ so.1 so.2 c.in-Some.ensures.value (same_text _ _ c.if-eq.ensures ∙ c.as_slice.ensures) in
    bar.0

pub loop-word-smaller : goal.loop-word-smaller
loop-word-smaller c =
    let so = c.loop-word.invariant in
    let more = past-word _ so.0 _ _ _ so.1 so.2 c.in-Some.ensures.value (λ is. other_text _ _ c.if-eq.ensures (is ∙ sym c.as_slice.ensures)) in
    more.3

pub loop-word-preserved : goal.loop-word-preserved
loop-word-preserved c =
    let so = c.loop-word.invariant in
    let more = past-word _ so.0 _ _ _ so.1 so.2 c.in-Some.ensures.value (λ is. other_text _ _ c.if-eq.ensures (is ∙ sym c.as_slice.ensures)) in
    (more.0, more.1, more.2)

pub returns-clause-cut : goal.returns-clause-cut
returns-clause-cut c = let so = c.loop-word.invariant in at-end _ so.0 _ so.1 so.2 c.in_default.ensures.value
