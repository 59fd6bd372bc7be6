use Rattle.std.proofs.Common.{◌≡◌, ℕ, ◌+◌, ◌<◌, ◌≤◌, false, List, length, map, sym, ap, ◌∙◌, subst, arith}
use Rattle.std.specs.List.{AllByRecursion, list_any}
use Rattle.cell_store.specs.declared.version.Version.{Version}
use Rattle.cell_store.specs.Slots.{names, renamed, version_of, IsWithin, AreNamed}
use Rattle.cell_store.specs.Few.{contents, AreRanked, DoDiffer}
use Rattle.cell_store.proofs.DifferLaws.{differ_renamed}
use Rattle.cell_store.proofs.EntryLaws.{ranked_renamed}
use Rattle.cell_store.proofs.SlotLaws.{IsWithout, some_find, without_is, same_each, within_each, still_named_each}
use Rattle.cell_store.proofs.slots.release.Goals as goal

pub loop-slot-preserved : goal.loop-slot-preserved
loop-slot-preserved c =
    let slot = c.loop-slot.slot in
    let versions = c.loop-slot.versions.items in
    let all = c.loop-slot.finds in
    let rest = c.swap_remove.new.self in
    let last = c.len-else-is_named.result in
    let few : length all ≡ last + 1 = omega arith in
    let fewer : length rest ≡ last = omega arith in
    let in_all : slot < last + 1 = omega arith in
    let low : slot < length all = omega arith in
    let some = some_find all slot low in
    let is : IsWithout all rest slot last = without_is all rest slot last some low few (c.swap_remove.ensures.items some) in
    let within : AllByRecursion (IsWithin (last + 1)) versions = subst (λ n. AllByRecursion (IsWithin n) versions) few c.loop-slot.invariant.within in
    let none : list_any (names slot) versions ≡ false = ap (list_any (names slot)) (sym c.deref.ensures.0) ∙ (sym c.is_named.ensures ∙ c.if-is_named.false) in
    let below : slot ≤ last = omega arith in
    record {
      few = omega arith;
      fewer = omega (arith, c.loop-slot.invariant.fewer);
      same = ap (map (version_of rest)) c.rename.ensures ∙ (same_each all rest slot last some is in_all versions within none ∙ c.loop-slot.invariant.same);
      within = subst (λ (l : List (Version ℕ)). AllByRecursion (IsWithin (length rest)) l) (sym c.rename.ensures)
          (subst (λ n. AllByRecursion (IsWithin n) (map (renamed last slot) versions)) (sym fewer) (within_each all rest slot last some is in_all versions within none));
      named = subst (λ (l : List (Version ℕ)). AreNamed l slot) (sym c.rename.ensures) (still_named_each slot last below versions c.loop-slot.invariant.named);
      ranked = λ was. subst (λ (l : List (Version ℕ)). AreRanked l) (sym c.rename.ensures) (ranked_renamed last slot versions (c.loop-slot.invariant.ranked was));
      differ = λ was. subst (λ (l : List (Version ℕ)). DoDiffer (contents l)) (sym c.rename.ensures) (differ_renamed last slot versions none (c.loop-slot.invariant.differ was));
    }
