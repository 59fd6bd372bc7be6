-- The pairs that count: what the cache says of them, in the words of a world.
use Rattle.std.proofs.Common.{◌≡◌, ℕ, ◌≤◌, Bool, true, false, Option, None, List, [], ◌∷◌, map, refl, sym, ap, subst, ◌∙◌}
use Rattle.std.specs.Prelude.{◌&&◌, ◌||◌, is_some}
use Rattle.std.specs.List.{AllByRecursion}
use Rattle.std.specs.Map.{lookup}
use Rattle.std.specs.Option.{option_map_or}
use Rattle.std.specs.Set.{distinct_count, is_member}
use Rattle.std.proofs.Math.Path.{fun_ext}
use Rattle.std.proofs.lemmas.Cmp.{nat_eq_equiv}
use Rattle.dns_name.specs.Labels.{Labels}
use Rattle.dns_name.specs.ListLaws.{all_weaker}
use Rattle.dns_name.specs.Order.{name_eq, name_eq_exact, name_equiv}
use Rattle.ranked.specs.Equal.{scope_eq}
use Rattle.ranked.specs.declared.find.Find.{Find}
use Rattle.ranked.specs.declared.find.Scope.{Scope}
use Rattle.ranked.specs.declared.find.Scope.TheVariants.{One, Whole}
use Rattle.change_law.specs.declared.kept.KeptChange.{KeptChange}
use Rattle.change_law.specs.Pairs.{AddsPairs, AreNeeded, CountsAmong, CountsNoneOf, IsAliveIn, count_pairs, pair_eq, pair_of}
use Rattle.cell_store.specs.declared.owner.OwnerCells.{OwnerCells}
use Rattle.cell_store.specs.Count.{AddPair, KeepPairs, has_pair, has_place}
use Rattle.cell_store.specs.Count as stored
use Rattle.shelf.specs.declared.shelf.Shelf.{Shelf}
use Rattle.shelf.specs.Stored.{HasAdmittedEach, IsAliveInFace, pairs_in}
use Rattle.shelf.specs.Stored as shelf
use Rattle.shelf.specs.Told.{Told}
use Rattle.shelf.specs.Told.Told.{admitted}
use Rattle.ranked.specs.declared.cell.Admitted.{Admitted}
use Rattle.table_changes.specs.Part.{part}
use Rattle.store.specs.World.{shelved, cell_by, counts_in, face_by, KeepsFlushes}
use Rattle.store.specs.Store.{of_cells, store_face, KeepsStore}
use Rattle.store.specs.declared.store.Store.{Store}
use Rattle.store.specs.WorldLaws.{same_alive}
use Rattle.store.specs.declared.world.SavedFlush.{SavedFlush}

-- ---- pairs are compared alike

same_scope : (a b : Scope) → stored.scope_eq a b ≡ scope_eq a b
same_scope (One kind) (One other) = refl
same_scope (One kind) Whole = refl
same_scope Whole (One other) = refl
same_scope Whole Whole = refl

same_pair : (a b : Labels × Scope) → stored.pair_eq a b ≡ pair_eq a b
same_pair a b = ap (λ (s : Bool). name_eq a.0 b.0 && s) (same_scope a.1 b.1)

same_pairs : stored.pair_eq ≡ pair_eq
same_pairs = fun_ext (λ a. fun_ext (λ b. same_pair a b))

turned_scope : (a b : Scope) → stored.scope_eq a b ≡ stored.scope_eq b a
turned_scope (One a) (One b) = nat_eq_equiv.symm a b
turned_scope (One a) Whole = refl
turned_scope Whole (One b) = refl
turned_scope Whole Whole = refl

turned_pair : (a b : Labels × Scope) → stored.pair_eq a b ≡ stored.pair_eq b a
turned_pair a b = (λ i. name_equiv.symm a.0 b.0 i && turned_scope a.1 b.1 i)

-- ---- the bounds

abbrev told_finds : List Find → List Told
told_finds [] = []
told_finds (find ∷ finds) = admitted find 0 ∷ told_finds finds

pairs_told : (finds : List Find) → pairs_in (told_finds finds) ≡ map pair_of finds
pairs_told [] = refl
pairs_told (find ∷ finds) = ap (λ (l : List (Labels × Scope)). pair_of find ∷ l) (pairs_told finds)

pub stored_most : (own : Shelf) (n : ℕ) → ((told : List Told) → HasAdmittedEach told own → n ≤ shelf.count_pairs (pairs_in told)) →
    (finds : List Find) → CountsAmong counts_in (map pair_of finds) (shelved own) → n ≤ count_pairs (map pair_of finds)
stored_most own n most finds among =
    let pairs = pairs_told finds in
    subst (λ (eq : Labels × Scope → Labels × Scope → Bool). n ≤ distinct_count eq (map pair_of finds)) same_pairs
    (subst (λ (l : List (Labels × Scope)). n ≤ shelf.count_pairs l) pairs
    (most (told_finds finds) (λ pair has. (λ i. is_member (same_pairs i) (pairs i) pair) ∙ among pair has)))

pub alive_there : (own : Shelf) (kept : List (KeptChange SavedFlush)) (t : ℕ) (pair : Labels × Scope) → IsAliveIn (λ saved. None) face_by (shelved own) kept t pair → IsAliveInFace own t pair
alive_there own kept t pair is = record {
  chosen = is.chosen;
  question = is.question;
  held = is.held;
  alive = sym (same_alive t (cell_by (shelved own) is.chosen is.question)) ∙ is.alive;
  same = is.same;
}

pub stored_least : (own : Shelf) (n : ℕ) → ((t : ℕ) (pairs : List (Labels × Scope)) → AllByRecursion (IsAliveInFace own t) pairs → shelf.count_pairs pairs ≤ n) →
    (kept : List (KeptChange SavedFlush)) (t : ℕ) (pairs : List (Labels × Scope)) → AllByRecursion (IsAliveIn (λ saved. None) face_by (shelved own) kept t) pairs → count_pairs pairs ≤ n
stored_least own n least kept t pairs all =
    subst (λ (eq : Labels × Scope → Labels × Scope → Bool). distinct_count eq pairs ≤ n) same_pairs
    (least t pairs (all_weaker (IsAliveIn (λ saved. None) face_by (shelved own) kept t) (IsAliveInFace own t) (λ pair is. alive_there own kept t pair is) pairs all))

-- ---- what a call adds

or_false : (b : Bool) → (b || false) ≡ b
or_false true = refl
or_false false = refl

or_right : (a b : Bool) → b ≡ true → (a || b) ≡ true
or_right true b is = refl
or_right false b is = is

pub adds_pair : (find : Find) (before after : Shelf) → AddPair (stored.pair_of find) before.owners after.owners → AddsPairs counts_in (pair_of find ∷ []) (shelved before) (shelved after)
adds_pair find before after adds = λ pair has.
    let same : is_member pair_eq (pair_of find ∷ []) pair ≡ stored.pair_eq (pair_of find) pair
    = or_false (pair_eq pair (pair_of find)) ∙ sym (same_pair pair (pair_of find)) ∙ turned_pair pair (pair_of find) in
    ap (λ (b : Bool). b || counts_in (shelved before) pair) same ∙ adds pair has

pub adds_none : (find : Find) (before after : Shelf) → KeepPairs before.owners after.owners → AddsPairs counts_in (pair_of find ∷ []) (shelved before) (shelved after)
adds_none find before after keeps = λ pair has. or_right (is_member pair_eq (pair_of find ∷ []) pair) (counts_in (shelved before) pair) (keeps pair has)

pub same_owners : (before after : Shelf) → after.owners ≡ before.owners → AddsPairs counts_in [] (shelved before) (shelved after)
same_owners before after same = λ pair has. ap (λ m. has_pair m pair) (sym same) ∙ has

-- The places of a name that the cache has no entry for do not count.
pub none_of : (owner : Labels) (new : Shelf) → lookup (name_eq owner) new.owners.entries ≡ None → CountsNoneOf counts_in owner (shelved new)
none_of owner new gone pair same =
    let own : lookup (name_eq pair.0) new.owners.entries ≡ None = subst (λ (n : Labels). lookup (name_eq n) new.owners.entries ≡ None) (name_eq_exact owner pair.0 same) gone in
    ap (λ (cells : Option OwnerCells). option_map_or (λ cells. has_place cells pair.1) cells false) own

-- ---- what a sweep leaves

-- what is needed of a shelf is needed of its world
pub needed_there : (own : Shelf) (t : ℕ) → shelf.AreNeeded t own → AreNeeded counts_in KeepsFlushes face_by t (shelved own)
needed_there own t is = λ kept h pair has.
    let one = is pair has in
    record {
      chosen = one.chosen;
      question = one.question;
      about = one.about;
      alive = ap (λ (c : Option (Admitted Find)). is_some c) (same_alive t (cell_by (shelved own) one.chosen one.question)) ∙ one.alive;
    }

-- and so of the cache beside the tables
pub needed_beside : (x : Store) (t : ℕ) → AreNeeded counts_in KeepsFlushes face_by t x.cells → AreNeeded (λ (s : Store) pair. counts_in s.cells pair) KeepsStore store_face t x
needed_beside x t is = λ kept h pair has.
    let one = is (part of_cells kept) h.1 pair has in
    record { chosen = one.chosen; question = one.question; about = one.about; alive = one.alive }
