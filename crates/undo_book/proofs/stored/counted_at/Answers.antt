use Rattle.std.proofs.Common.{◌≤◌, List, length, ap, ◌∙◌, subst, arith}
use Rattle.std.specs.Prelude.{fold, take}
use Rattle.std.proofs.lemmas.List.{take_all, length-take}
use Rattle.undo_book.specs.declared.log.Logged.{Logged}
use Rattle.undo_book.proofs.StoredLaws.{counted_past, walked, walked_within}
use Rattle.undo_book.proofs.stored.counted_at.Goals as goal

pub counted_then-counted-requires : goal.counted_then-counted-requires
counted_then-counted-requires c =
    let name = c.args.name.now in
    let log = c.args.log.now.items in
    let i = c.loop-logged.logged-index in
    record { few = omega (arith, c.loop-logged.invariant, walked_within name 0 (take i log), length-take i log, c.requires.short) }

pub returns : goal.returns
returns c =
    let name = c.args.name.now in
    let log = c.args.log.now.items in
    let i = c.loop-logged.logged-index in
    let ended = subst (λ (l : List Logged). length l ≤ i) c.deref-logged-items.ensures.value c.loop-logged-test.false in
    c.loop-logged.invariant ∙ ap (λ (l : List Logged). fold (counted_past name) 0 l) (take_all i log ended) ∙ walked name log
