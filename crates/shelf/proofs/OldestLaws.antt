-- The name to forget first, by the first of all places.
use Rattle.std.proofs.Common.{◌≡◌, ℕ, ◌<◌, ◌≤◌, Bool, Option, Some, None, List, [], refl, sym, ap, ◌∙◌, subst, arith, ◌⊎◌, inl, inr}
use Rattle.std.specs.Prelude.{slice_get}
use Rattle.std.specs.Option.{option_map_or}
use Rattle.std.proofs.lemmas.Map.Entries.{lookup_from_place, place_from_lookup}
use Rattle.indexmap.specs.IndexMap.{get, IsUnique}
use Rattle.dns_name.specs.Labels.{Labels}
use Rattle.dns_name.specs.Order.{name_eq, name_eq_exact, name_equiv, IsNotAfter}
use Rattle.dns_text.specs.declared.record.Question.{Question}
use Rattle.ranked.specs.declared.find.Find.{Find}
use Rattle.ranked.specs.declared.cell.Admitted.{Admitted}
use Rattle.ranked.specs.Oldest.{IsLastEnding}
use Rattle.cell_store.specs.declared.owner.OwnerCells.{OwnerCells}
use Rattle.cell_store.specs.Life.{alive_before_end, ends_later, life_end, IsAliveTo}
use Rattle.cell_store.specs.Store.{cell_by_owner}
use Rattle.winner_tree.specs.Tree.{IsBelow}
use Rattle.shelf.specs.declared.settling.Settling.{Settling}
use Rattle.shelf.specs.declared.shelf.KeptFlush.{KeptFlush}
use Rattle.shelf.specs.declared.shelf.Shelf.{Shelf}
use Rattle.shelf.specs.declared.oldest.Candidate.{Candidate}
use Rattle.shelf.specs.Settling.{settled_version}
use Rattle.shelf.specs.Told.{chosen_version, face_of, only}
use Rattle.shelf.specs.First.{cell_at_name, life_at, name_at, name_life, IsBefore, IsFirst}
use Rattle.shelf.specs.Oldest.{IsEnding, IsNoneAlive, IsOldest}
use Rattle.shelf.proofs.LifeLaws.{name_most, name_there, only_version}
use Rattle.shelf.proofs.OrderLaws.{below_root}
use Rattle.shelf.proofs.RoomLaws.{chosen_is_version}

module _ (shelf : Shelf) (unique : IsUnique name_eq shelf.owners) (t : ℕ) where
  abbrev settlings : List Settling
  settlings = shelf.settlings.items

  abbrev kept : List KeptFlush
  kept = shelf.kept.items

  abbrev entries : List (Labels × OwnerCells)
  entries = shelf.owners.entries

  abbrev asked : Labels → ℕ → Question
  asked name k = record { owner = name; kind = k }

  -- the cells of a name, by its place
  face_is : (i : ℕ) (name : Labels) (cells : OwnerCells) → slice_get entries i ≡ Some (name, cells) → (chosen : ℕ → Bool) (k : ℕ)
      → face_of shelf chosen (asked name k) ≡ cell_at_name settlings name cells k (chosen_version kept (asked name k) chosen)
  face_is i name cells there chosen k =
      let v = chosen_version kept (asked name k) chosen in
      let found : get name_eq shelf.owners name ≡ Some cells = lookup_from_place name_equiv entries i name cells unique there in
      ap (λ (o : Option OwnerCells). cell_by_owner o k (settled_version settlings name v)) found

  life_is : (i : ℕ) (name : Labels) (cells : OwnerCells) → slice_get entries i ≡ Some (name, cells) → life_at settlings kept entries i ≡ name_life settlings kept name cells
  life_is i name cells there = ap (λ (o : Option (Labels × OwnerCells)). option_map_or (λ e. name_life settlings kept e.0 e.1) o 0) there

  -- no find of it ends later
  ending_low : (i : ℕ) (name : Labels) (cells : OwnerCells) → slice_get entries i ≡ Some (name, cells) → (end : ℕ) → IsEnding shelf t name end → (end ≤ life_at settlings kept entries i) × (t < end)
  ending_low i name cells there end is =
      let v = chosen_version kept (asked name is.kind) is.chosen in
      let alive : IsAliveTo t (cell_at_name settlings name cells is.kind v) end = subst (λ (h : Option (Admitted Find)). IsAliveTo t h end) (face_is i name cells there is.chosen is.kind) is.alive in
      let at = ends_later t end (cell_at_name settlings name cells is.kind v) alive in
      let low : life_end (cell_at_name settlings name cells is.kind v) ≤ name_life settlings kept name cells = name_most settlings kept name cells is.kind v (chosen_is_version kept (asked name is.kind) is.chosen) in
      (omega (arith, low, at.1, life_is i name cells there), at.0)

  -- one ends then
  ending_there : (i : ℕ) (name : Labels) (cells : OwnerCells) → slice_get entries i ≡ Some (name, cells) → t < life_at settlings kept entries i → IsEnding shelf t name (life_at settlings kept entries i)
  ending_there i name cells there before =
      let own = name_there settlings kept name cells in
      let k = own.0 in
      let v = own.1.0 in
      let life : life_end (cell_at_name settlings name cells k v) ≡ life_at settlings kept entries i = own.1.1.1 ∙ sym (life_is i name cells there) in
      let alive : IsAliveTo t (cell_at_name settlings name cells k v) (life_end (cell_at_name settlings name cells k v)) = alive_before_end t (cell_at_name settlings name cells k v) (omega (arith, before, life)) in
      let face : face_of shelf (only v) (asked name k) ≡ cell_at_name settlings name cells k v =
      face_is i name cells there (only v) k ∙ ap (cell_at_name settlings name cells k) (only_version kept (asked name k) v own.1.1.0) in
      record {
        chosen = only v;
        kind = k;
        alive = subst (λ (h : Option (Admitted Find)). IsAliveTo t h (life_at settlings kept entries i)) (sym face) (subst (λ n. IsAliveTo t (cell_at_name settlings name cells k v) n) life alive);
      }

  last_there : (i : ℕ) (name : Labels) (cells : OwnerCells) → slice_get entries i ≡ Some (name, cells) → t < life_at settlings kept entries i → IsLastEnding (IsEnding shelf t) name (life_at settlings kept entries i)
  last_there i name cells there before = record {
    ending = ending_there i name cells there before;
    last = λ other is. (ending_low i name cells there other is).0;
  }

  -- the place of a name that has a find alive
  found : (name : Labels) (end : ℕ) → IsEnding shelf t name end → (i : ℕ) × ((cells : OwnerCells) × (slice_get entries i ≡ Some (name, cells)))
  found name end is = split (get name_eq shelf.owners name) refl
    where
      v : ℕ
      v = chosen_version kept (asked name is.kind) is.chosen

      split : (o : Option OwnerCells) → get name_eq shelf.owners name ≡ o → (i : ℕ) × ((cells : OwnerCells) × (slice_get entries i ≡ Some (name, cells)))
      split None at =
          let none : face_of shelf is.chosen (asked name is.kind) ≡ None =
          ap (λ (o : Option OwnerCells). cell_by_owner o is.kind (settled_version settlings name v)) at in
          let dead : IsAliveTo t None end = subst (λ (h : Option (Admitted Find)). IsAliveTo t h end) none is.alive in
          absurd (let no : None ≡ Some dead.held = dead.alive in cc)
      split (Some cells) at =
          let place = place_from_lookup (name_eq name) entries cells at in
          let same : name ≡ place.1 = name_eq_exact name place.1 place.3 in
          (place.0, (cells, subst (λ (n : Labels). slice_get entries place.0 ≡ Some (n, cells)) (sym same) place.2))

  name_is : (i : ℕ) (name : Labels) (cells : OwnerCells) → slice_get entries i ≡ Some (name, cells) → name_at entries i ≡ name
  name_is i name cells there = ap (λ (o : Option (Labels × OwnerCells)). option_map_or (λ e. e.0) o []) there

  first_of : (p : ℕ) (name : Labels) → name_at entries p ≡ name → ((i : ℕ) → IsBelow 0 i → t < life_at settlings kept entries i → IsBefore settlings kept entries p i)
      → (other : Labels) (later : ℕ) → IsLastEnding (IsEnding shelf t) other later → (life_at settlings kept entries p < later) ⊎ ((life_at settlings kept entries p ≡ later) × IsNotAfter name other)
  first_of p name named first other later is =
      let at = found other later is.ending in
      let i = at.0 in
      let low = ending_low i other at.1.0 at.1.1 later is.ending in
      let before : t < life_at settlings kept entries i = omega (arith, low.0, low.1) in
      let high : life_at settlings kept entries i ≤ later = is.last (life_at settlings kept entries i) (ending_there i other at.1.0 at.1.1 before) in
      let same : life_at settlings kept entries i ≡ later = omega (arith, low.0, high) in
      elim (first i (below_root i) before) [
        | inl sooner ↦ inl (omega (arith, sooner, same))
        | inr tied ↦ inr (tied.0 ∙ same, subst (λ (n : Labels). IsNotAfter n other) named (subst (λ (n : Labels). IsNotAfter (name_at entries p) n) (name_is i other at.1.0 at.1.1) tied.1))
      ]

  pub oldest_of : (own : Candidate) → IsFirst settlings kept entries t (IsBelow 0) None (Some own) → IsOldest shelf t own.name.now
  oldest_of own is = split (slice_get entries own.place) refl
    where
      alive : t < life_at settlings kept entries own.place
      alive = omega (arith, is.candidate.alive, is.candidate.end)

      split : (o : Option (Labels × OwnerCells)) → slice_get entries own.place ≡ o → IsOldest shelf t own.name.now
      split None at =
          let none : life_at settlings kept entries own.place ≡ 0 = ap (λ (o : Option (Labels × OwnerCells)). option_map_or (λ e. name_life settlings kept e.0 e.1) o 0) at in
          absurd (omega (arith, none, alive))
      split (Some e) at =
          let named : own.name.now ≡ e.0 = is.candidate.name ∙ name_is own.place e.0 e.1 at in
          record {
            end = life_at settlings kept entries own.place;
            own = subst (λ (n : Labels). IsLastEnding (IsEnding shelf t) n (life_at settlings kept entries own.place)) (sym named) (last_there own.place e.0 e.1 at alive);
            first = first_of own.place own.name.now (sym is.candidate.name) is.beats;
          }

  pub none_of : IsFirst settlings kept entries t (IsBelow 0) None None → IsNoneAlive shelf t
  none_of first name end is =
      let at = found name end is in
      let low = ending_low at.0 name at.1.0 at.1.1 end is in
      let past : life_at settlings kept entries at.0 ≤ t = first.beats at.0 (below_root at.0) in
      omega (arith, low.0, low.1, past)
