-- The moment before which a sweep finds nothing to remove of a name is not after the end of its last find.
use Rattle.std.proofs.Common.{◌≡◌, ℕ, zero, suc, ◌+◌, ◌<◌, ◌≤◌, Bool, true, false, cond, Option, Some, None, List, [], ◌∷◌, length, get_or, map, refl, sym, ap, ◌∙◌, subst, arith, inl, inr}
use Rattle.std.specs.Prelude.{◌==◌, is_some, nat_eq, nat_lt, slice_get, IfSome}
use Rattle.std.specs.List.{AllByRecursion, IsDistinct}
use Rattle.std.specs.Option.{option_map_or}
use Rattle.std.proofs.lemmas.Bool.{cases_Bool, eq-eqb, eqb-true, false≢true}
use Rattle.std.proofs.lemmas.Bool.Decides.{nat_tests}
use Rattle.std.proofs.lemmas.List.{get_or_default}
use Rattle.std.proofs.lemmas.Map.Keys.{IsDistinct-head, IsDistinct-tail}
use Rattle.indexmap.specs.IndexMap.{IsUnique}
use Rattle.dns_name.specs.Labels.{Labels}
use Rattle.dns_name.specs.Order.{name_eq}
use Rattle.ranked.specs.declared.find.Find.{Find}
use Rattle.ranked.specs.declared.cell.Admitted.{Admitted}
use Rattle.ranked.specs.Cell.{end_of, is_alive}
use Rattle.ranked.specs.Find.{admission_of}
use Rattle.cell_store.specs.declared.owner.KindColumn.{KindColumn}
use Rattle.cell_store.specs.declared.owner.WholeFind.{WholeFind}
use Rattle.cell_store.specs.declared.owner.OwnerCells.{OwnerCells}
use Rattle.cell_store.specs.Column.{Cells, is_counted}
use Rattle.cell_store.specs.Count.{count_kinds, one_if}
use Rattle.cell_store.specs.Life.{ends_later, life_end, IsAliveTo}
use Rattle.cell_store.specs.Owner.{cell_in, column_of, whole_held}
use Rattle.cell_store.specs.Sweep.{alive_at, is_dead}
use Rattle.winner_tree.specs.Tree.{moment_at, never}
use Rattle.shelf.specs.declared.settling.Settling.{Settling}
use Rattle.shelf.specs.declared.shelf.KeptFlush.{KeptFlush}
use Rattle.shelf.specs.declared.shelf.Shelf.{Shelf}
use Rattle.shelf.specs.Clean.{zeros_to, AreKeyed, IsAlive, IsClean, IsEnd}
use Rattle.shelf.specs.Settling.{most_left}
use Rattle.shelf.specs.Told.{IsShelf}
use Rattle.shelf.specs.First.{life_at, name_life, AreBounds}
use Rattle.shelf.proofs.LifeLaws.{name_most, whole_most}
use Rattle.shelf.proofs.StoredLaws.{each_once, no_column}
use Rattle.cell_store.specs.TestLaws.{not_false}

-- ---- a cell

alive_life : (t : ℕ) (cell : Option (Admitted Find)) → is_some (alive_at t cell) ≡ true → t < life_end cell
alive_life t None is = absurd (false≢true is)
alive_life t (Some held) is = split (is_alive held t) refl is
  where
    split : (b : Bool) → is_alive held t ≡ b → is_some (cond b (Some held) None) ≡ true → t < life_end (Some held)
    split true at some =
        let alive : IsAliveTo t (Some held) (end_of held) = record { held = held; alive = ap (λ b. cond b (Some held) None) at; at = refl } in
        let ends = ends_later t (end_of held) (Some held) alive in
        omega (arith, ends.0, ends.1)
    split false at none = absurd (false≢true none)

whole_life : (t : ℕ) (whole : Option WholeFind) → is_some whole ≡ true → is_dead t whole ≡ false → t < life_end (whole_held whole 0)
whole_life t None some alive = absurd (false≢true some)
whole_life t (Some whole) some alive =
    let held : Admitted Find = admission_of whole.find whole.find whole.since in
    let at : is_alive held t ≡ true = not_false (is_alive held t) alive in
    let first : nat_lt whole.upto 0 ≡ false = grind (arith, nat_tests) in
    let here : whole_held (Some whole) 0 ≡ Some held = ap (λ b. cond b None (Some held)) first in
    subst (λ (h : Option (Admitted Find)). t < life_end h) (sym here) (alive_life t (Some held) (ap (λ b. is_some (cond b (Some held) None)) at))

-- ---- a column that counts

kind_counted : (kinds : List KindColumn) → IsDistinct nat_eq (map (λ (own : KindColumn). own.kind) kinds) → 1 ≤ count_kinds kinds → (k : ℕ) × (option_map_or is_counted (column_of kinds k) false ≡ true)
kind_counted [] once some = absurd (omega arith)
kind_counted (x ∷ kinds) once some = split (is_counted x.column) refl some (kind_counted kinds (IsDistinct-tail nat_eq x.kind (map (λ (own : KindColumn). own.kind) kinds) once))
  where
    split : (b : Bool) → is_counted x.column ≡ b → 1 ≤ one_if b + count_kinds kinds → (1 ≤ count_kinds kinds → (k : ℕ) × (option_map_or is_counted (column_of kinds k) false ≡ true))
        → (k : ℕ) × (option_map_or is_counted (column_of (x ∷ kinds) k) false ≡ true)
    split true at low more = (x.kind, ap (λ b. option_map_or is_counted (cond b (Some x.column) (column_of kinds x.kind)) false) (eq-eqb x.kind x.kind refl) ∙ at)
    split false at low more =
        let rest = more (omega arith) in (
          rest.0,
          elim (cases_Bool (x.kind == rest.0)) [
            | inl here ↦
                let none : column_of kinds rest.0 ≡ None =
                ap (column_of kinds) (sym (eqb-true x.kind rest.0 here)) ∙ no_column kinds x.kind (IsDistinct-head nat_eq x.kind (map (λ (own : KindColumn). own.kind) kinds) once) in
                absurd (false≢true (sym (ap (λ (o : Option Cells). option_map_or is_counted o false) none) ∙ rest.1))
            | inr away ↦ ap (λ b. option_map_or is_counted (cond b (Some x.column) (column_of kinds rest.0)) false) away ∙ rest.1
          ],
        )

-- ---- a name

clean_life : (kept : List KeptFlush) (t : ℕ) (name : Labels) (cells : OwnerCells) → IsDistinct nat_eq (map (λ (own : KindColumn). own.kind) cells.kinds.items) → IsClean kept t name cells → t < name_life [] kept name cells
clean_life kept t name cells once is = split (is_some cells.whole) refl is.counted
  where
    split : (b : Bool) → is_some cells.whole ≡ b → 1 ≤ one_if b + count_kinds cells.kinds.items → t < name_life [] kept name cells
    split true at low = omega (arith, whole_life t cells.whole at is.whole, whole_most [] kept name cells)
    split false at low =
        let own = kind_counted cells.kinds.items once (omega arith) in
        let alive : IsAlive kept name t cells own.0 = is.kinds own.0 own.1 in
        omega (arith, alive_life t (cell_in cells own.0 alive.0) alive.1.1, name_most [] kept name cells own.0 alive.0 alive.1.0)

end_low : (kept : List KeptFlush) (e : Labels × OwnerCells) (end : ℕ) → IsDistinct nat_eq (map (λ (own : KindColumn). own.kind) e.1.kinds.items) → IsEnd kept e end → end ≤ name_life [] kept e.0 e.1
end_low kept e zero once is = omega arith
end_low kept e (suc t) once is = omega (arith, clean_life kept t e.0 e.1 once (is t (omega arith)))

-- ---- all names

all_at : (P : Labels × OwnerCells → Type 0) (entries : List (Labels × OwnerCells)) (i : ℕ) (e : Labels × OwnerCells) → AllByRecursion P entries → slice_get entries i ≡ Some e → P e
all_at P [] i e all there = let none : None ≡ Some e = there in absurd cc
all_at P (x ∷ entries) zero e all there =
    let some : Some x ≡ Some e = there in
    let one : x ≡ e = cc in
    subst (λ (y : Labels × OwnerCells). P y) one all.0
all_at P (x ∷ entries) (suc i) e all there = all_at P entries i e all.1 there

get_there : (entries : List (Labels × OwnerCells)) (i : ℕ) → i < length entries → (e : Labels × OwnerCells) × (slice_get entries i ≡ Some e)
get_there [] i low = absurd (omega arith)
get_there (x ∷ entries) zero low = (x, refl)
get_there (x ∷ entries) (suc i) low = get_there entries i (omega arith)

abbrev Once : Labels × OwnerCells → Type 0
Once e = IsDistinct nat_eq (map (λ (own : KindColumn). own.kind) e.1.kinds.items)

bound_at : (kept : List KeptFlush) (entries : List (Labels × OwnerCells)) (ends : List ℕ) → AllByRecursion Once entries → AreKeyed (IsEnd kept) entries ends → (i : ℕ) → i < length ends → moment_at ends i ≤ life_at [] kept entries i
bound_at kept entries ends once keyed i low =
    let there = get_there entries i (omega (arith, low, keyed.size)) in
    let e = there.0 in
    let end : IsEnd kept e (get_or ends i 0) = subst (λ (o : Option (Labels × OwnerCells)). IfSome o (λ x. IsEnd kept x (get_or ends i 0))) there.1 (keyed.each i) in
    let life : life_at [] kept entries i ≡ name_life [] kept e.0 e.1 = ap (λ (o : Option (Labels × OwnerCells)). option_map_or (λ x. name_life [] kept x.0 x.1) o 0) there.1 in
    let same : get_or ends i never ≡ get_or ends i 0 = get_or_default ends i never 0 low in
    omega (arith, end_low kept e (get_or ends i 0) (all_at Once entries i e once there.1) end, life, same)

-- no flush has names left to reach, so no moment is in doubt
pub no_doubt : (shelf : Shelf) → IsShelf shelf → shelf.settlings.items ≡ [] → shelf.ends.left ≡ 0
no_doubt shelf is none = omega (arith, is.doubt, ap most_left none)

pub shelf_bounds : (shelf : Shelf) → IsShelf shelf → IsUnique name_eq shelf.owners → AreBounds shelf.settlings.items shelf.kept.items shelf.owners.entries shelf.ends.moments
shelf_bounds shelf is unique none = (
  is.ends.size,
  λ i low.
      subst (λ (s : List Settling). moment_at shelf.ends.moments i ≤ life_at s shelf.kept.items shelf.owners.entries i) (sym none)
      (bound_at shelf.kept.items shelf.owners.entries shelf.ends.moments (each_once shelf.top shelf.owners.entries unique is.upto) (subst (λ n. AreKeyed (IsEnd shelf.kept.items) shelf.owners.entries (zeros_to n shelf.ends.moments)) (no_doubt shelf is none) is.ends.now) i low),
)
