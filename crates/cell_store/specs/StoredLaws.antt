-- The number of places that count, and the entries of other names, when the cells of one name are replaced: lemmas for walks over names.
use Rattle.std.proofs.Common.{◌≡◌, ℕ, zero, suc, ◌+◌, ◌≤◌, Some, None, List, [], ◌∷◌, slice_get, refl, ap, arith}
use Rattle.indexmap.specs.IndexMap.{set_value_at}
use Rattle.dns_name.specs.Labels.{Labels}
use Rattle.cell_store.specs.declared.owner.OwnerCells.{OwnerCells}
use Rattle.cell_store.specs.Count.{count_of, count_entries}

-- The cells of one name are replaced: the number changes by the difference.
pub count_set_at : (entries : List (Labels × OwnerCells)) (place : ℕ) (key : Labels) (old new : OwnerCells) → slice_get entries place ≡ Some (key, old)
    → count_entries (set_value_at entries place new) + count_of old ≡ count_entries entries + count_of new
count_set_at [] place key old new is = let none : None ≡ Some (key, old) = is in absurd cc
count_set_at (e ∷ entries) zero key old new is =
    let there : Some e ≡ Some (key, old) = is in
    let one : e ≡ (key, old) = cc in
    omega (arith, ap (λ (x : Labels × OwnerCells). count_of x.1) one)
count_set_at (e ∷ entries) (suc place) key old new is = omega (arith, count_set_at entries place key old new is)

-- The places of one name are at most those of all.
pub count_found_at : (entries : List (Labels × OwnerCells)) (place : ℕ) (key : Labels) (old : OwnerCells) → slice_get entries place ≡ Some (key, old) → count_of old ≤ count_entries entries
count_found_at [] place key old is = let none : None ≡ Some (key, old) = is in absurd cc
count_found_at (e ∷ entries) zero key old is =
    let there : Some e ≡ Some (key, old) = is in
    let one : e ≡ (key, old) = cc in
    omega (arith, ap (λ (x : Labels × OwnerCells). count_of x.1) one)
count_found_at (e ∷ entries) (suc place) key old is = omega (arith, count_found_at entries place key old is)

-- The cells of one name are replaced: the entries of all other places are as they were.
pub others_at : (entries : List (Labels × OwnerCells)) (place : ℕ) (new : OwnerCells) (i : ℕ) → (i ≡ place → ⊥) → slice_get (set_value_at entries place new) i ≡ slice_get entries i
others_at [] place new i off = refl
others_at (e ∷ entries) zero new zero off = absurd (off refl)
others_at (e ∷ entries) zero new (suc i) off = refl
others_at (e ∷ entries) (suc place) new zero off = refl
others_at (e ∷ entries) (suc place) new (suc i) off = others_at entries place new i (λ same. off (ap suc same))
