-- After a sweep, each place that counts is needed: a find about it is alive by some choice of the kept flushes.
use Rattle.std.proofs.Common.{◌≡◌, ℕ, ◌+◌, ◌-◌, suc, ◌<◌, ◌≤◌, Bool, true, false, cond, Option, Some, None, List, [], ◌∷◌, refl, sym, ap, ◌∙◌, arith}
use Rattle.std.specs.Prelude.{◌==◌, ◌&&◌, nat_lt, not, is_some, IfSome}
use Rattle.std.specs.Option.{option_map_or}
use Rattle.std.proofs.lemmas.Bool.{false≢true}
use Rattle.std.proofs.lemmas.Bool.Decides.{nat_tests}
use Rattle.std.proofs.lemmas.Cmp.{nat_eq_equiv}
use Rattle.indexmap.specs.IndexMap.{get}
use Rattle.dns_name.specs.Labels.{Labels}
use Rattle.dns_name.specs.Order.{name_eq, name_equiv}
use Rattle.dns_text.specs.declared.record.Question.{Question}
use Rattle.ranked.specs.declared.find.Scope.{Scope}
use Rattle.ranked.specs.declared.find.Scope.TheVariants.{One, Whole}
use Rattle.ranked.specs.Find.{admission_of}
use Rattle.cell_store.specs.declared.owner.KindColumn.{KindColumn}
use Rattle.cell_store.specs.declared.owner.OwnerCells.{OwnerCells}
use Rattle.cell_store.specs.declared.owner.WholeFind.{WholeFind}
use Rattle.cell_store.specs.Count.{has_place}
use Rattle.cell_store.specs.Owner.{cell_in, column_held, column_of, whole_held}
use Rattle.cell_store.specs.Store.{cell_by_owner}
use Rattle.cell_store.specs.Sweep.{alive_at, is_dead}
use Rattle.shelf.specs.declared.settling.Settling.{Settling}
use Rattle.shelf.specs.declared.shelf.KeptFlush.{KeptFlush}
use Rattle.shelf.specs.declared.shelf.Shelf.{Shelf}
use Rattle.shelf.specs.Settling.{settled_cell}
use Rattle.shelf.specs.Stored.{AreNeeded, IsNeeded}
use Rattle.shelf.specs.Sweep.{AreAlive, IsAlive}
use Rattle.shelf.specs.Told.{chosen_version, only}
use Rattle.shelf.proofs.LifeLaws.{only_version}

-- ---- a type that has no column

abbrev beyond : List KindColumn → ℕ
beyond [] = 0
beyond (own ∷ kinds) = own.kind + suc (beyond kinds)

other_kind : (a b : ℕ) → a < b → (a == b) ≡ false
other_kind a b low = grind (arith, nat_tests)

no_column : (kinds : List KindColumn) (kind : ℕ) → beyond kinds ≤ kind → column_of kinds kind ≡ None
no_column [] kind low = refl
no_column (own ∷ kinds) kind low =
    let past : own.kind + suc (beyond kinds) ≤ kind = low in
    ap (λ (b : Bool). cond b (Some own.column) (column_of kinds kind)) (other_kind own.kind kind (omega (arith, past))) ∙ no_column kinds kind (omega (arith, past))

-- ---- what is alive

never_below : (n : ℕ) → nat_lt n 0 ≡ false
never_below n = grind (arith, nat_tests)

whole_alive : (t : ℕ) (whole : Option WholeFind) → is_some whole ≡ true → is_dead t whole ≡ false → is_some (alive_at t (whole_held whole 0)) ≡ true
whole_alive t None has dead = absurd (false≢true has)
whole_alive t (Some whole) has dead =
    ap (λ (b : Bool). is_some (alive_at t (cond b None (Some (admission_of whole.find whole.find whole.since))))) (never_below whole.upto)
    ∙ split (nat_lt (t - whole.since) whole.find.ttl) refl
  where
    split : (b : Bool) → nat_lt (t - whole.since) whole.find.ttl ≡ b → is_some (cond (nat_lt (t - whole.since) whole.find.ttl) (Some (admission_of whole.find whole.find whole.since)) None) ≡ true
    split true is = ap (λ (b : Bool). is_some (cond b (Some (admission_of whole.find whole.find whole.since)) None)) is
    split false is = absurd (false≢true (sym dead ∙ ap not is))

whole_shown : (t : ℕ) (cells : OwnerCells) → is_some cells.whole ≡ true → is_dead t cells.whole ≡ false → is_some (alive_at t (cell_in cells (beyond cells.kinds.items) 0)) ≡ true
whole_shown t cells has dead =
    ap (λ c. is_some (alive_at t (column_held cells.whole c 0))) (no_column cells.kinds.items (beyond cells.kinds.items) (omega arith)) ∙ whole_alive t cells.whole has dead

abbrev asked : Labels → ℕ → Question
asked name kind = record { owner = name; kind = kind }

same_name : (name : Labels) → name_eq name name ≡ true
same_name name = name_equiv.refl name

same_kind : (kind : ℕ) → (kind == kind) ≡ true
same_kind kind = nat_eq_equiv.refl kind

-- no flush is chosen
abbrev none_chosen : ℕ → Bool
none_chosen number = false

none_version : (kept : List KeptFlush) (q : Question) → chosen_version kept q none_chosen ≡ 0
none_version [] q = refl
none_version (own ∷ kept) q = none_version kept q

-- ---- all places

pub needed : (shelf : Shelf) (t : ℕ) → shelf.settlings.items ≡ [] → AreAlive shelf.kept.items t shelf.owners → AreNeeded t shelf
needed shelf t none is pair has = found (get name_eq shelf.owners pair.0) refl (is.kinds pair.0) (is.wholes pair.0) has
  where
    name : Labels
    name = pair.0

    -- the cell of a choice, by the cells of the name
    cell : (cells : OwnerCells) → get name_eq shelf.owners name ≡ Some cells → (kind v : ℕ) → settled_cell shelf.settlings.items shelf.owners (asked name kind) v ≡ cell_in cells kind v
    cell cells there kind v =
        ap (λ (s : List Settling). settled_cell s shelf.owners (asked name kind) v) none
        ∙ ap (λ c. cell_by_owner c kind v) there

    one : (cells : OwnerCells) (kind : ℕ) → get name_eq shelf.owners name ≡ Some cells → IsAlive shelf.kept.items name t cells kind → IsNeeded shelf t (name, One kind)
    one cells kind there alive = record {
      chosen = only alive.0;
      question = asked name kind;
      about = ap (λ (b : Bool). b && (kind == kind)) (same_name name) ∙ same_kind kind;
      alive = ap (λ n. is_some (alive_at t (settled_cell shelf.settlings.items shelf.owners (asked name kind) n))) (only_version shelf.kept.items (asked name kind) alive.0 alive.1.0)
          ∙ (ap (λ c. is_some (alive_at t c)) (cell cells there kind alive.0) ∙ alive.1.1);
    }

    whole : (cells : OwnerCells) → get name_eq shelf.owners name ≡ Some cells → is_some cells.whole ≡ true → is_dead t cells.whole ≡ false → IsNeeded shelf t (name, Whole)
    whole cells there some dead =
        let kind = beyond cells.kinds.items in record {
          chosen = none_chosen;
          question = asked name kind;
          about = ap (λ (b : Bool). b && true) (same_name name);
          alive = ap (λ n. is_some (alive_at t (settled_cell shelf.settlings.items shelf.owners (asked name kind) n))) (none_version shelf.kept.items (asked name kind))
              ∙ (ap (λ c. is_some (alive_at t c)) (cell cells there kind 0) ∙ whole_shown t cells some dead);
        }

    placed : (cells : OwnerCells) (scope : Scope) → get name_eq shelf.owners name ≡ Some cells → ((k : ℕ) → has_place cells (One k) ≡ true → IsAlive shelf.kept.items name t cells k) → is_dead t cells.whole ≡ false
        → has_place cells scope ≡ true → IsNeeded shelf t (name, scope)
    placed cells (One kind) there kinds dead here = one cells kind there (kinds kind here)
    placed cells Whole there kinds dead here = whole cells there here dead

    found : (o : Option OwnerCells) → get name_eq shelf.owners name ≡ o → IfSome o (λ cells. (k : ℕ) → has_place cells (One k) ≡ true → IsAlive shelf.kept.items name t cells k) → IfSome o (λ cells. is_dead t cells.whole ≡ false)
        → option_map_or (λ cells. has_place cells pair.1) (get name_eq shelf.owners name) false ≡ true → IsNeeded shelf t (name, pair.1)
    found None there kinds wholes here = absurd (false≢true (sym (ap (λ o. option_map_or (λ cells. has_place cells pair.1) o false) there) ∙ here))
    found (Some cells) there kinds wholes here = placed cells pair.1 there kinds wholes (sym (ap (λ o. option_map_or (λ cells. has_place cells pair.1) o false) there) ∙ here)
