-- The name to forget first: what the cache says of it, in the words of a world, and what the cells say of it, in those of the store.
use Rattle.std.proofs.Common.{◌≡◌, ◌<◌, ◌∙◌, ◌∷◌, [], ℕ, Bool, Option, Some, None, List, refl, sym, ap}
use Rattle.std.specs.Prelude.{◌||◌, is_some}
use Rattle.std.specs.List.{AllByRecursion}
use Rattle.dns_name.specs.Labels.{Labels}
use Rattle.dns_text.specs.declared.record.Question.{Question}
use Rattle.ranked.specs.Oldest.{EndsFirst, NoneEnds}
use Rattle.ranked.specs.OldestLaws.{none_alike, oldest_alike}
use Rattle.change_law.specs.declared.kept.KeptChange.{KeptChange}
use Rattle.change_law.specs.Choice.{Agree, IsChoice}
use Rattle.change_law.specs.ChoiceLaws.{also_choice, has_also, with_tables, HasAlso}
use Rattle.change_law.specs.Face.{alive_at}
use Rattle.change_law.specs.Oldest.{AreCurrent, IsEnding}
use Rattle.shelf.specs.declared.shelf.Shelf.{Shelf}
use Rattle.shelf.specs.Oldest as shelf
use Rattle.table_changes.specs.Part.{with_part, part}
use Rattle.table_changes.specs.PartLaws.{part_all}
use Rattle.store.specs.declared.world.SavedFlush.{SavedFlush}
use Rattle.store.specs.declared.store.SavedChange.{SavedChange}
use Rattle.store.specs.declared.store.Store.{Store}
use Rattle.store.specs.declared.store.WayBack.{WayBack}
use Rattle.store.specs.declared.store.WayBack.TheVariants as way
use Rattle.store.specs.ReadLaws.{reads_flushes}
use Rattle.store.specs.Store.{flush_way, of_cells, store_face, store_table, table_of, KeepsStore}
use Rattle.store.specs.StoreLaws.{cells_agree, no_table}
use Rattle.store.specs.SumLaws.{choice_part}
use Rattle.store.specs.World.{shelved, cell_by, face_by, KeepsFlushes}
use Rattle.store.specs.WorldLaws.{same_alive}

-- ---- the cache

-- Where nothing is cleared, any choice of flushes will do.
also_flushes : (chosen : ℕ → Bool) (kept : List (KeptChange SavedFlush)) → AllByRecursion (HasAlso no_table chosen chosen) kept
also_flushes chosen [] = tt
also_flushes chosen (k ∷ kept) = (refl, also_flushes chosen kept)

any_choice : (chosen : ℕ → Bool) (kept : List (KeptChange SavedFlush)) → AreCurrent kept → IsChoice no_table kept chosen
any_choice chosen kept current = also_choice no_table chosen chosen kept current (also_flushes chosen kept)

module _ (own : Shelf) (kept : List (KeptChange SavedFlush)) (t : ℕ) where
  pub ending_back : (name : Labels) (end : ℕ) → IsEnding no_table face_by (shelved own) kept t name end → shelf.IsEnding own t name end
  ending_back name end is =
      let q : Question = record { owner = name; kind = is.kind } in
      record {
        chosen = is.chosen;
        kind = is.kind;
        alive = record { held = is.held; alive = sym (same_alive t (cell_by (shelved own) is.chosen q)) ∙ is.alive; at = is.at };
      }

  ending_there : AreCurrent kept → (name : Labels) (end : ℕ) → shelf.IsEnding own t name end → IsEnding no_table face_by (shelved own) kept t name end
  ending_there current name end is =
      let q : Question = record { owner = name; kind = is.kind } in
      record {
        chosen = is.chosen;
        choice = any_choice is.chosen kept current;
        kind = is.kind;
        held = is.alive.held;
        alive = same_alive t (cell_by (shelved own) is.chosen q) ∙ is.alive.alive;
        at = is.alive.at;
      }

  pub oldest_there : AreCurrent kept → (name : Labels) → shelf.IsOldest own t name → EndsFirst (IsEnding no_table face_by (shelved own) kept t) name
  oldest_there current name is = oldest_alike (shelf.IsEnding own t) (IsEnding no_table face_by (shelved own) kept t) (ending_there current) ending_back name is

  pub none_there : shelf.IsNoneAlive own t → NoneEnds (IsEnding no_table face_by (shelved own) kept t)
  none_there none name end is = none name end (ending_back name end is)

-- ---- the store

part_less : (n : ℕ) (kept : List (KeptChange SavedChange)) → AllByRecursion (λ k. n < k.ticket) kept → AllByRecursion (λ k. n < k.ticket) (part of_cells kept)
part_less n kept all = part_all of_cells (λ k. n < k.ticket) (λ k. n < k.ticket) (λ k p e less. less) kept all

part_current : (kept : List (KeptChange SavedChange)) → AreCurrent kept → AreCurrent (part of_cells kept)
part_current [] current = tt
part_current (k ∷ kept) current = by (of_cells k.saved) (part_current kept current.2)
  where
    by : (p : Option SavedFlush) → AreCurrent (part of_cells kept) → AreCurrent (with_part k.ticket k.standing p (part of_cells kept))
    by None more = more
    by (Some p) more = (current.0, part_less k.ticket kept current.1, more)

-- A flush is of no table.
flush_alone : (w : WayBack) (p : SavedFlush) (b : Bool) → flush_way w ≡ Some p → (is_some (table_of w) || b) ≡ b
flush_alone (way.Table saved) p b e = let none : None ≡ Some p = e in absurd cc
flush_alone (way.Flush saved) p b e = refl

agree_cells : (chosen other : ℕ → Bool) (kept : List (KeptChange SavedChange)) → AllByRecursion (HasAlso store_table chosen other) kept → Agree other chosen (part of_cells kept)
agree_cells chosen other kept all =
    part_all of_cells (HasAlso store_table chosen other) (λ k. other k.ticket ≡ chosen k.ticket) (λ k p e also. also ∙ flush_alone k.saved.way p (chosen k.ticket) e) kept all

module _ (x : Store) (kept : List (KeptChange SavedChange)) (t : ℕ) where
  pub cells_end : (name : Labels) (end : ℕ) → IsEnding store_table store_face x kept t name end → IsEnding no_table face_by x.cells (part of_cells kept) t name end
  cells_end name end is = record {
    chosen = is.chosen;
    choice = choice_part of_cells store_table no_table cells_agree kept is.chosen is.choice;
    kind = is.kind;
    held = is.held;
    alive = is.alive;
    at = is.at;
  }

  store_ends : KeepsStore x kept → AreCurrent kept → (name : Labels) (end : ℕ) → IsEnding no_table face_by x.cells (part of_cells kept) t name end → IsEnding store_table store_face x kept t name end
  store_ends h current name end is =
      let other = with_tables store_table kept is.chosen in
      let all = has_also store_table is.chosen kept current in
      let q : Question = record { owner = name; kind = is.kind } in
      record {
        chosen = other;
        choice = also_choice store_table is.chosen other kept current all;
        kind = is.kind;
        held = is.held;
        alive = ap (alive_at t) (reads_flushes x.cells (part of_cells kept) other is.chosen h.1 (agree_cells is.chosen other kept all) q) ∙ is.alive;
        at = is.at;
      }

  pub store_oldest : KeepsStore x kept → AreCurrent kept → (name : Labels) →
      ((kept : List (KeptChange SavedFlush)) → KeepsFlushes x.cells kept → AreCurrent kept → EndsFirst (IsEnding no_table face_by x.cells kept t) name) → EndsFirst (IsEnding store_table store_face x kept t) name
  store_oldest h current name is =
      oldest_alike (IsEnding no_table face_by x.cells (part of_cells kept) t) (IsEnding store_table store_face x kept t) (store_ends h current) cells_end name
      (is (part of_cells kept) h.1 (part_current kept current))

  pub store_none : KeepsStore x kept → AreCurrent kept →
      ((kept : List (KeptChange SavedFlush)) → KeepsFlushes x.cells kept → AreCurrent kept → NoneEnds (IsEnding no_table face_by x.cells kept t)) → NoneEnds (IsEnding store_table store_face x kept t)
  store_none h current none =
      none_alike (IsEnding no_table face_by x.cells (part of_cells kept) t) (IsEnding store_table store_face x kept t) (store_ends h current) cells_end
      (none (part of_cells kept) h.1 (part_current kept current))
