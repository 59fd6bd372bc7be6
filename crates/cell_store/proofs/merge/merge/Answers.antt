use Rattle.std.proofs.Common.{◌≡◌, ℕ, ◌+◌, ◌-◌, ◌<◌, List, length, get_or, slice_set, sym, ap, ◌∙◌, arith}
use Rattle.cell_store.specs.declared.version.Version.{Version}
use Rattle.cell_store.specs.Merge.{started}
use Rattle.cell_store.proofs.Each.{refilled_set}
use Rattle.cell_store.proofs.EntryLaws.{ranked_joined, all_differ}
use Rattle.cell_store.proofs.MergeLaws.{merged_less, merged_more}
use Rattle.cell_store.proofs.merge.merge.Goals as goal

pub loop-place-preserved-then-holds_same : goal.loop-place-preserved-then-holds_same
loop-place-preserved-then-holds_same c =
    let versions = c.loop-place.versions.items in
    let i = c.loop-place.place - 1 in
    let at : (c.loop-place.place - 1) + 1 ≡ c.loop-place.place = omega (arith, c.loop-place.invariant.some) in
    let low : c.loop-place.place < length versions = omega arith in
    let a = c.index-deref-place.result in
    let b = c.index-deref-place-in-loop-place.result in
    let removed = c.remove-later.new.self.items in
    let later = c.remove-later.result in
    let lent = c.index-deref_mut-place.result in
    merged_less _ versions c.loop-place.place i a b c.loop-place.invariant at low
    (c.index-deref-place.is ∙ ap (λ (l : List (Version ℕ)). get_or l i a) c.deref.ensures.0)
    (c.index-deref-place-in-loop-place.is ∙ ap (λ (l : List (Version ℕ)). get_or l c.loop-place.place b) c.deref-in-loop-place.ensures.0)
    (λ d same is. ranked_joined i versions d (omega arith) same is)
    _ removed later lent (sym c.holds_same.ensures ∙ c.if-holds_same.true) c.remove-later.ensures.items c.remove-later.ensures.value
    (c.index-deref_mut-place.is ∙ ap (λ (l : List (Version ℕ)). get_or l i lent) c.deref_mut.ensures.value)
    (refilled_set removed c.deref_mut.result.now i c.start_by.new.self c.deref_mut.ensures.value
    ∙ ap (slice_set removed i) (c.start_by.ensures ∙ (ap (started c.start.result) (sym c.index-deref_mut-place.is) ∙ ap (λ from. started from lent) c.start.ensures)))

pub loop-place-preserved : goal.loop-place-preserved
loop-place-preserved c =
    let versions = c.loop-place.versions.items in
    let i = c.loop-place.place - 1 in
    let at : (c.loop-place.place - 1) + 1 ≡ c.loop-place.place = omega (arith, c.loop-place.invariant.some) in
    let low : c.loop-place.place < length versions = omega arith in
    let a = c.index-deref-place.result in
    let b = c.index-deref-place-in-loop-place.result in
    merged_more _ versions c.loop-place.place i a b c.loop-place.invariant at low
    (c.index-deref-place.is ∙ ap (λ (l : List (Version ℕ)). get_or l i a) c.deref.ensures.0)
    (c.index-deref-place-in-loop-place.is ∙ ap (λ (l : List (Version ℕ)). get_or l c.loop-place.place b) c.deref-in-loop-place.ensures.0)
    (sym c.holds_same.ensures ∙ c.if-holds_same.false)

pub returns-clause-differ : goal.returns-clause-differ
returns-clause-differ c = λ was.
    all_differ c.loop-place.versions.items (c.loop-place.invariant.drops.ranked was).0 (λ i d low. c.loop-place.invariant.apart i d (omega arith))
