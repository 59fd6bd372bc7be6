-- The place of a find that a cell has counts: lemmas.
use Rattle.std.proofs.Common.{◌≡◌, ℕ, Bool, true, false, cond, Option, Some, None, List, [], ◌∷◌, refl, sym, ap, ◌∙◌, subst, inl, inr}
use Rattle.std.specs.Prelude.{fold, nat_le, nat_lt, ◌==◌, ◌||◌, is_some, IfSome}
use Rattle.std.specs.List.{AllByRecursion, list_any}
use Rattle.std.specs.Option.{option_map_or}
use Rattle.std.proofs.lemmas.Bool.{cases_Bool, eqb-true, false≢true, and_parts}
use Rattle.indexmap.specs.IndexMap.{IndexMap, get}
use Rattle.dns_name.specs.Labels.{Labels}
use Rattle.dns_name.specs.Order.{name_eq, name_eq_exact}
use Rattle.dns_text.specs.declared.record.Question.{Question}
use Rattle.ranked.specs.declared.find.Find.{Find}
use Rattle.ranked.specs.declared.find.Scope.{Scope}
use Rattle.ranked.specs.declared.find.Scope.TheVariants.{One, Whole}
use Rattle.ranked.specs.declared.cell.Admitted.{Admitted}
use Rattle.ranked.specs.Find.{touches}
use Rattle.cell_store.specs.declared.version.Place.{Place}
use Rattle.cell_store.specs.declared.version.Version.{Version}
use Rattle.cell_store.specs.declared.owner.KindColumn.{KindColumn}
use Rattle.cell_store.specs.declared.owner.WholeFind.{WholeFind}
use Rattle.cell_store.specs.declared.owner.OwnerCells.{OwnerCells}
use Rattle.cell_store.specs.Version.{nothing, later_place, place_at}
use Rattle.cell_store.specs.Column.{Cells, place_in, has_find, is_counted}
use Rattle.cell_store.specs.Owner.{cell_in, column_of, column_held, whole_held, whole_cell, IsOwn, IsUpTo}
use Rattle.cell_store.specs.Store.{cell_of, cell_by_owner, AreAbout, AreUpTo}
use Rattle.cell_store.specs.Count.{has_place, has_pair, pair_of}
use Rattle.cell_store.specs.TestLaws.{or_left, or_right}

or_around : (a b c : Bool) → (a || c) ≡ true → (a || (b || c)) ≡ true
or_around true b c is = refl
or_around false b c is = or_right b c is

-- ---- a column

fold_found : (v : ℕ) (versions : List (Version Find)) (place : Place Find) → is_some (fold (later_place v) place versions).cell.held ≡ true → (is_some place.cell.held || list_any has_find versions) ≡ true
fold_found v [] place is = or_left (is_some place.cell.held) false is
fold_found v (x ∷ versions) place is = split (nat_le x.from v) (fold_found v versions (later_place v place x) is)
  where
    split : (b : Bool) → (is_some (cond b x.place place).cell.held || list_any has_find versions) ≡ true → (is_some place.cell.held || (has_find x || list_any has_find versions)) ≡ true
    split true h = or_right (is_some place.cell.held) (has_find x || list_any has_find versions) h
    split false h = or_around (is_some place.cell.held) (has_find x) (list_any has_find versions) h

-- A column with a find in some version counts.
pub found_counted : (cells : Cells) (v : ℕ) → is_some (place_in cells v).cell.held ≡ true → is_counted cells ≡ true
found_counted cells v is = split (nat_lt cells.upto v) is
  where
    split : (b : Bool) → is_some (cond b nothing (place_at cells.versions v)).cell.held ≡ true → is_counted cells ≡ true
    split true h = absurd (false≢true h)
    split false h = fold_found v cells.versions nothing h

-- A column that does not count has finds of any type only, since it has none.
pub uncounted_own : (kind : ℕ) (cells : Cells) → is_counted cells ≡ false → IsOwn kind cells
uncounted_own kind cells none v = split (place_in cells v).cell.held refl
  where
    split : (held : Option (Admitted Find)) → (place_in cells v).cell.held ≡ held → IfSome held (λ h. h.body.scope ≡ One kind)
    split None at = tt
    split (Some h) at = absurd (false≢true (sym none ∙ found_counted cells v (ap is_some at)))

-- ---- a name

column_own : (kinds : List KindColumn) → AllByRecursion (λ own. IsOwn own.kind own.column) kinds → (k : ℕ) → IfSome (column_of kinds k) (IsOwn k)
column_own [] all k = tt
column_own (x ∷ kinds) all k = elim (cases_Bool (x.kind == k)) [
  | inl here ↦
      subst (λ b. IfSome (cond b (Some x.column) (column_of kinds k)) (IsOwn k)) (sym here) (subst (λ n. IsOwn n x.column) (eqb-true x.kind k here) all.0)
  | inr gone ↦ subst (λ b. IfSome (cond b (Some x.column) (column_of kinds k)) (IsOwn k)) (sym gone) (column_own kinds all.1 k)
]

-- The place of a find that a cell of a name has counts.
pub cell_counted : (top : ℕ) (cells : OwnerCells) → IsUpTo top cells → (k v : ℕ) → IfSome (cell_in cells k v) (λ held. has_place cells held.body.scope ≡ true)
cell_counted top cells is k v = by_column (column_of cells.kinds.items k) refl (column_own cells.kinds.items is.own k)
  where
    whole_place : (w : WholeFind) → cells.whole ≡ Some w → w.find.scope ≡ Whole → has_place cells w.find.scope ≡ true
    whole_place w at wide = subst (λ (s : Scope). has_place cells s ≡ true) (sym wide) (ap is_some at)

    in_whole : (o : Option WholeFind) → cells.whole ≡ o → IfSome o (λ w. w.find.scope ≡ Whole) → IfSome (whole_cell o) (λ held. has_place cells held.body.scope ≡ true)
    in_whole None at wide = tt
    in_whole (Some w) at wide = whole_place w at wide

    in_version : (o : Option WholeFind) → cells.whole ≡ o → IfSome o (λ w. w.find.scope ≡ Whole) → IfSome (whole_held o v) (λ held. has_place cells held.body.scope ≡ true)
    in_version None at wide = tt
    in_version (Some w) at wide = split (nat_lt w.upto v)
      where
        split : (b : Bool) → IfSome (cond b None (whole_cell (Some w))) (λ held. has_place cells held.body.scope ≡ true)
        split true = tt
        split false = whole_place w at wide

    in_column : (column : Cells) → column_of cells.kinds.items k ≡ Some column → (h : Option (Admitted Find)) → (place_in column v).cell.held ≡ h → IfSome h (λ held. held.body.scope ≡ One k)
        → IfSome h (λ held. has_place cells held.body.scope ≡ true)
    in_column column there None at own = tt
    in_column column there (Some held) at own =
        subst (λ (s : Scope). has_place cells s ≡ true) (sym own) (ap (λ (o : Option Cells). option_map_or is_counted o false) there ∙ found_counted column v (ap is_some at))

    by_column : (o : Option Cells) → column_of cells.kinds.items k ≡ o → IfSome o (IsOwn k) → IfSome (column_held cells.whole (column_of cells.kinds.items k) v) (λ held. has_place cells held.body.scope ≡ true)
    by_column None there own = subst (λ (o : Option Cells). IfSome (column_held cells.whole o v) (λ held. has_place cells held.body.scope ≡ true)) (sym there) (in_version cells.whole refl is.wide)
    by_column (Some column) there own =
        subst (λ (o : Option Cells). IfSome (column_held cells.whole o v) (λ held. has_place cells held.body.scope ≡ true)) (sym there) (split (place_in column v).left)
      where
        split : (l : Bool) → IfSome (cond l (whole_cell cells.whole) (place_in column v).cell.held) (λ held. has_place cells held.body.scope ≡ true)
        split true = in_whole cells.whole refl is.wide
        split false = in_column column there (place_in column v).cell.held refl (own v)

-- ---- all names

-- The place of a find that a cell has counts.
pub held_counted : {S : Type 0} (owners : IndexMap Labels OwnerCells S) (top : ℕ) → AreUpTo top owners → AreAbout owners → (q : Question) (v : ℕ) → IfSome (cell_of owners q v) (λ held. has_pair owners (pair_of held.body) ≡ true)
held_counted owners top upto about q v = by_name (get name_eq owners q.owner) refl (upto q.owner) (about q v)
  where
    there : (cells : OwnerCells) → get name_eq owners q.owner ≡ Some cells → (h : Option (Admitted Find)) → IfSome h (λ held. has_place cells held.body.scope ≡ true) → IfSome h (λ held. touches held.body q ≡ true)
        → IfSome h (λ held. has_pair owners (pair_of held.body) ≡ true)
    there cells at None placed touched = tt
    there cells at (Some held) placed touched =
        let parts = and_parts _ _ touched in
        ap (λ (n : Labels). option_map_or (λ (c : OwnerCells). has_place c held.body.scope) (get name_eq owners n) false) (name_eq_exact held.body.owner q.owner parts.0)
        ∙ (ap (λ (o : Option OwnerCells). option_map_or (λ c. has_place c held.body.scope) o false) at ∙ placed)

    by_name : (o : Option OwnerCells) → get name_eq owners q.owner ≡ o → IfSome o (IsUpTo top) → IfSome (cell_of owners q v) (λ held. touches held.body q ≡ true) → IfSome (cell_of owners q v) (λ held. has_pair owners (pair_of held.body) ≡ true)
    by_name None at is touched = subst (λ (o : Option OwnerCells). IfSome (cell_by_owner o q.kind v) (λ held. has_pair owners (pair_of held.body) ≡ true)) (sym at) tt
    by_name (Some cells) at is touched =
        subst (λ (o : Option OwnerCells). IfSome (cell_by_owner o q.kind v) (λ held. has_pair owners (pair_of held.body) ≡ true)) (sym at)
        (there cells at (cell_in cells q.kind v) (cell_counted top cells is q.kind v) (subst (λ (o : Option OwnerCells). IfSome (cell_by_owner o q.kind v) (λ held. touches held.body q ≡ true)) at touched))
