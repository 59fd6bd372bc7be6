-- Each name of the index has a place that counts, and each of its columns counts unless a find of the whole name is cached.
use Rattle.std.proofs.Common.{◌≡◌, ℕ, zero, suc, ◌<◌, ◌≤◌, Bool, true, false, cond, Option, Some, None, List, [], ◌∷◌, length, refl, sym, subst, arith, inl, inr}
use Rattle.std.specs.Prelude.{is_some, nat_lt, position, slice_get, swap_remove, IfSome}
use Rattle.std.specs.Map.{keys_of}
use Rattle.std.proofs.lemmas.Bool.Decides.{nat_tests}
use Rattle.std.proofs.lemmas.List.Sums.{sum_by-cons}
use Rattle.std.proofs.lemmas.Map.Entries.{length-keys_of}
use Rattle.indexmap.specs.IndexMap.{swap_remove_entry}
use Rattle.dns_name.specs.Labels.{Labels}
use Rattle.dns_name.specs.Order.{name_eq}
use Rattle.cell_store.specs.declared.owner.OwnerCells.{OwnerCells}
use Rattle.cell_store.specs.declared.owner.WholeFind.{WholeFind}
use Rattle.cell_store.specs.Count.{count_entries, count_of, IsInUse, IsTidy}
use Rattle.cell_store.specs.Store.{name_place, EachCounts, StayBut}
use Rattle.shelf.specs.Clean.{AreKeyed}
use Rattle.shelf.specs.Stored.{columns_in, plain_columns}
use Rattle.shelf.proofs.DropLaws.{keyed_gone}
use Rattle.shelf.proofs.EndLaws.{keyed_dropped, keyed_set}
use Rattle.shelf.proofs.ListLaws.{same_or}

-- a name is in use, whatever its moment
abbrev Counts : Labels × OwnerCells → ℕ → Type 0
Counts entry end = IsInUse entry.1

counts_keyed : (entries : List (Labels × OwnerCells)) (ends : List ℕ) → length ends ≡ length entries → EachCounts entries → AreKeyed Counts entries ends
counts_keyed entries ends size each = record { size = size; each = each }

-- the names are at most the places that count
pub names_few : (entries : List (Labels × OwnerCells)) → EachCounts entries → length entries ≤ count_entries entries
names_few [] each = omega arith
names_few (e ∷ entries) each = let here = each 0 in omega (arith, here.0, names_few entries (λ i. each (suc i)))

-- and so are the columns of the names of which no find of the whole name is cached
few_plain : (cells : OwnerCells) → IsTidy cells → plain_columns cells ≤ count_of cells
few_plain cells tidy = split cells.whole refl
  where
    split : (o : Option WholeFind) → cells.whole ≡ o → cond (is_some o) 0 (length cells.kinds.items) ≤ count_of cells
    split None is = tidy is
    split (Some w) is = omega arith

pub columns_few : (entries : List (Labels × OwnerCells)) → EachCounts entries → columns_in entries ≤ count_entries entries
columns_few [] each = omega arith
columns_few (e ∷ entries) each =
    let here = each 0 in
    omega (arith, sum_by-cons (λ (entry : Labels × OwnerCells). plain_columns entry.1) e entries, few_plain e.1 here.1, columns_few entries (λ i. each (suc i)))

-- the cells of a name count some place, and are tidy
pub used_some : (o : Option (Labels × OwnerCells)) → IfSome o (λ e. 1 ≤ count_of e.1) → IfSome o (λ e. IsTidy e.1) → IfSome o (λ e. IsInUse e.1)
used_some None some tidy = tt
used_some (Some e) some tidy = (some, tidy)

-- the cells of the name at a place have changed, and it is in use
pub each_kept : (old new : List (Labels × OwnerCells)) (ends : List ℕ) (place : ℕ) → length ends ≡ length old → ((i : ℕ) → (i ≡ place → ⊥) → slice_get new i ≡ slice_get old i) → length new ≡ length old → place < length old
    → IfSome (slice_get new place) (λ e. IsInUse e.1) → EachCounts old → EachCounts new
each_kept old new ends place size others same low some each = (keyed_set Counts old new ends place 0 (counts_keyed old ends size each) others same low some).each

-- they have changed, and then the name has gone
pub each_gone : (before middle new : List (Labels × OwnerCells)) (ends : List ℕ) (place : ℕ) (d : Labels × OwnerCells) → place < length before → ((i : ℕ) → (i ≡ place → ⊥) → slice_get middle i ≡ slice_get before i)
    → keys_of middle ≡ keys_of before → new ≡ swap_remove middle place d → length ends ≡ length before → EachCounts before → EachCounts new
each_gone before middle new ends place d low others names entries size each = (keyed_gone before middle new place d low others names entries Counts ends (counts_keyed before ends size each)).each

pub each_forgot : (name : Labels) (entries new : List (Labels × OwnerCells)) (ends : List ℕ) → length ends ≡ length entries → new ≡ swap_remove_entry (name_eq name) entries → EachCounts entries → EachCounts new
each_forgot name entries new ends size put each =
    subst (λ (l : List (Labels × OwnerCells)). EachCounts l) (sym put) (keyed_dropped Counts (name_eq name) entries ends (counts_keyed entries ends size each)).each

-- ---- a name that is not there

past : {X : Type 0} (xs : List X) (i : ℕ) → length xs ≤ i → slice_get xs i ≡ None
past [] i far = refl
past (x ∷ xs) zero far = absurd (omega (arith, far))
past (x ∷ xs) (suc i) far = past xs i (omega (arith, far))

far_place : (p n : ℕ) → None ≡ cond (nat_lt p n) (Some p) None → n ≤ p
far_place p n at = split (nat_lt p n) refl at
  where
    split : (b : Bool) → nat_lt p n ≡ b → None ≡ cond b (Some p) None → n ≤ p
    split true low same = let none : None ≡ Some p = same in absurd cc
    split false high same = grind (arith, nat_tests)

pub each_absent : (name : Labels) (old new : List (Labels × OwnerCells)) → StayBut name old new → length new ≡ length old → None ≡ position (name_eq name) (keys_of old) → EachCounts old → EachCounts new
each_absent name old new stay size none each i = elim (same_or i (name_place name old)) [
  | inl here ↦
      let far : length old ≤ name_place name old = omega (arith, far_place (name_place name old) (length (keys_of old)) none, length-keys_of old) in
      subst (λ (o : Option (Labels × OwnerCells)). IfSome o (λ e. IsInUse e.1)) (sym (past new i (omega (arith, here, far, size)))) tt
  | inr off ↦ subst (λ (o : Option (Labels × OwnerCells)). IfSome o (λ e. IsInUse e.1)) (sym (stay.others i off)) (each i)
]
