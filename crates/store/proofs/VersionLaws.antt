-- The flushes that the cache keeps are among the kept changes.
use Rattle.std.proofs.Common.{◌≡◌, ℕ, ◌+◌, ◌≤◌, Bool, true, false, cond, Option, Some, None, List, [], ◌∷◌, ◌++◌, length, map, sym, ap, ◌∙◌, arith, length-append}
use Rattle.std.specs.Prelude.{fold}
use Rattle.std.proofs.lemmas.List.{length-map}
use Rattle.dns_text.specs.declared.record.Question.{Question}
use Rattle.ranked.specs.Flush.{covers}
use Rattle.change_law.specs.declared.kept.KeptChange.{KeptChange}
use Rattle.shelf.specs.declared.shelf.KeptFlush.{KeptFlush}
use Rattle.shelf.specs.Sweep.{number_more, numbers_of}
use Rattle.table_changes.specs.Part.{part, with_part}
use Rattle.store.specs.World.{Shelved, KeepsFlushes, mark, mark_of}
use Rattle.store.specs.Store.{of_cells, KeepsStore}
use Rattle.store.specs.declared.store.SavedChange.{SavedChange}
use Rattle.store.specs.declared.store.Store.{Store}
use Rattle.store.specs.declared.world.SavedFlush.{SavedFlush}

-- There are as many flushes as changes of the cache.
pub flushes_kept : (shelf : Shelved) (kept : List (KeptChange SavedFlush)) → KeepsFlushes shelf kept → length shelf.flushes ≡ length kept
flushes_kept shelf kept is = sym (length-map shelf.flushes mark) ∙ sym (ap (λ (l : List (ℕ × Bool)). length l) is.agree) ∙ length-map kept mark_of

-- A part of the changes is not longer.
pub part_few : {S P : Type 0} (mine : S → Option P) (kept : List (KeptChange S)) → length (part mine kept) ≤ length kept
part_few mine [] = omega arith
part_few {S} {P} mine (k ∷ later) = split (mine k.saved) (part_few mine later)
  where
    split : (own : Option P) → length (part mine later) ≤ length later → length (with_part k.ticket k.standing own (part mine later)) ≤ length (k ∷ later)
    split None few = omega (arith, few)
    split (Some saved) few = omega (arith, few)

pub flushes_few : (store : Store) (kept : List (KeptChange SavedChange)) → KeepsStore store kept → length store.cells.flushes ≤ length kept
flushes_few store kept is = omega (arith, flushes_kept store.cells (part of_cells kept) is.1, part_few of_cells kept)

-- Each flush adds at most one number.
numbers_from : (q : Question) (done : List ℕ) (kept : List KeptFlush) → length (fold (number_more q) done kept) ≤ length done + length kept
numbers_from q done [] = omega arith
numbers_from q done (own ∷ later) = split (covers own.flush q) (λ l. numbers_from q l later)
  where
    split : (b : Bool) → ((l : List ℕ) → length (fold (number_more q) l later) ≤ length l + length later) →
        length (fold (number_more q) (cond b (done ++ own.number ∷ []) done) later) ≤ length done + length (own ∷ later)
    split true few = omega (arith, few (done ++ own.number ∷ []), length-append done (own.number ∷ []))
    split false few = omega (arith, few done)

pub numbers_few : (q : Question) (kept : List KeptFlush) → length (numbers_of kept q) ≤ length kept
numbers_few q kept = omega (arith, numbers_from q [] kept)
