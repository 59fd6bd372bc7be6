-- A name that has a find alive has a place that counts, so fewer are left without it.
use Rattle.std.proofs.Common.{◌≡◌, ℕ, ◌+◌, ◌<◌, ◌≤◌, true, false, cond, Option, Some, None, List, [], ◌∷◌, refl, sym, ap, ◌∙◌, subst, arith, inl, inr}
use Rattle.std.specs.Prelude.{◌==◌, IfSome}
use Rattle.std.specs.Option.{option_map_or}
use Rattle.std.proofs.lemmas.Bool.{cases_Bool, false≢true}
use Rattle.indexmap.specs.IndexMap.{get}
use Rattle.dns_name.specs.Labels.{Labels}
use Rattle.dns_name.specs.Order.{name_eq}
use Rattle.dns_text.specs.declared.record.Question.{Question}
use Rattle.ranked.specs.declared.find.Find.{Find}
use Rattle.ranked.specs.declared.find.Scope.{Scope}
use Rattle.ranked.specs.declared.find.Scope.TheVariants.{One, Whole}
use Rattle.ranked.specs.declared.cell.Admitted.{Admitted}
use Rattle.cell_store.specs.declared.owner.KindColumn.{KindColumn}
use Rattle.cell_store.specs.declared.owner.OwnerCells.{OwnerCells}
use Rattle.cell_store.specs.Count.{count_kinds, count_of, has_place, is_counted, one_if}
use Rattle.cell_store.specs.HeldLaws.{cell_counted}
use Rattle.cell_store.specs.Owner.{cell_in, column_of, IsUpTo}
use Rattle.cell_store.specs.Store.{cell_by_owner}
use Rattle.shelf.specs.declared.shelf.Shelf.{Shelf}
use Rattle.shelf.specs.Oldest.{IsEnding}
use Rattle.shelf.specs.Settling.{settled_version}
use Rattle.shelf.specs.Told.{chosen_version, IsShelf}
use Rattle.shelf.proofs.AboutLaws.{alive_held}

kind_counts : (kinds : List KindColumn) (k : ℕ) → option_map_or is_counted (column_of kinds k) false ≡ true → 1 ≤ count_kinds kinds
kind_counts [] k has = absurd (false≢true has)
kind_counts (own ∷ kinds) k has = elim (cases_Bool (own.kind == k)) [
  | inl here ↦
      let counted : is_counted own.column ≡ true = sym (ap (λ b. option_map_or is_counted (cond b (Some own.column) (column_of kinds k)) false) here) ∙ has in
      omega (arith, ap one_if counted)
  | inr gone ↦ omega (arith, kind_counts kinds k (sym (ap (λ b. option_map_or is_counted (cond b (Some own.column) (column_of kinds k)) false) gone) ∙ has))
]

place_counts : (cells : OwnerCells) (scope : Scope) → has_place cells scope ≡ true → 1 ≤ count_of cells
place_counts cells (One k) has = omega (arith, kind_counts cells.kinds.items k has)
place_counts cells Whole has = omega (arith, ap one_if has)

-- A name with a find in some version has a place that counts.
held_counts : (top : ℕ) (cells : OwnerCells) → IsUpTo top cells → (k v : ℕ) (held : Admitted Find) → cell_in cells k v ≡ Some held → 1 ≤ count_of cells
held_counts top cells upto k v held is =
    place_counts cells held.body.scope (subst (λ (h : Option (Admitted Find)). IfSome h (λ x. has_place cells x.body.scope ≡ true)) is (cell_counted top cells upto k v))

pub fewer_left : (shelf : Shelf) → IsShelf shelf → (owner : Labels) (left : ℕ) → IfSome (get name_eq shelf.owners owner) (λ cells. left + count_of cells ≡ shelf.stored) →
    (t end : ℕ) → IsEnding shelf t owner end → left < shelf.stored
fewer_left shelf whole owner left less t end is = by (get name_eq shelf.owners owner) refl less (whole.upto owner)
  where
    q : Question
    q = record { owner = owner; kind = is.kind }

    v : ℕ
    v = settled_version shelf.settlings.items owner (chosen_version shelf.kept.items q is.chosen)

    there : cell_by_owner (get name_eq shelf.owners owner) is.kind v ≡ Some is.alive.held
    there = alive_held t (cell_by_owner (get name_eq shelf.owners owner) is.kind v) is.alive.held is.alive.alive

    by : (o : Option OwnerCells) → get name_eq shelf.owners owner ≡ o → IfSome o (λ cells. left + count_of cells ≡ shelf.stored) → IfSome o (IsUpTo shelf.top) → left < shelf.stored
    by None at less upto = let none : None ≡ Some is.alive.held = sym (ap (λ (o : Option OwnerCells). cell_by_owner o is.kind v) at) ∙ there in absurd cc
    by (Some cells) at less upto =
        let here : cell_in cells is.kind v ≡ Some is.alive.held = sym (ap (λ (o : Option OwnerCells). cell_by_owner o is.kind v) at) ∙ there in
        omega (arith, less, held_counts shelf.top cells upto is.kind v is.alive.held here)
