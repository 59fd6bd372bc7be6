-- Walks: lemmas for loops that change one element after the other.
use Rattle.std.proofs.Common.{◌≡◌, ℕ, zero, suc, ◌+◌, ◌<◌, ◌≤◌, Bool, true, false, cond, Some, List, [], ◌∷◌, length, get_or, refl, sym, ap, ◌∙◌, subst, arith, slice_set, slice_get, inl, inr}
use Rattle.std.proofs.lemmas.Bool.{cases_Bool}
use Rattle.std.specs.Map.{lookup}
use Rattle.indexmap.specs.IndexMap.{set_value_at}
use Rattle.cell_store.specs.Walk.{IsWalked, IsEach, IsEntry, IsFound}

-- A walk keeps the length.
pub walk_length : {X : Type 0} (P : X → X → Type 0) (i : ℕ) (olds news : List X) → IsWalked P i olds news → length news ≡ length olds
walk_length P zero olds news is = ap length is
walk_length P (suc i) [] news is = ap length is
walk_length P (suc i) (old ∷ olds) [] is = absurd is
walk_length P (suc i) (old ∷ olds) (new ∷ news) is = ap suc (walk_length P i olds news is.1)

step : {X : Type 0} (P : X → X → Type 0) (i : ℕ) (olds news : List X) (d new : X) → IsWalked P i olds news → i < length olds → P (get_or news i d) new → IsWalked P (suc i) olds (slice_set news i new)
step P zero [] news d new is low here = absurd (omega arith)
step P (suc i) [] news d new is low here = absurd (omega arith)
step {X} P zero (old ∷ olds) news d new is low here =
    subst (λ (l : List X). IsWalked P 1 (old ∷ olds) (slice_set l 0 new)) (sym is) (subst (λ (l : List X). P (get_or l 0 d) new) is here, refl)
step P (suc i) (old ∷ olds) [] d new is low here = absurd is
step P (suc i) (old ∷ olds) (x ∷ news) d new is low here = (is.0, step P i olds news d new is.1 (omega arith) here)

-- one element more
pub walk_more : {X : Type 0} (P : X → X → Type 0) (i : ℕ) (olds news : List X) (lent new : X) → IsWalked P i olds news → i < length olds → lent ≡ get_or news i lent → P lent new → IsWalked P (i + 1) olds (slice_set news i new)
walk_more {X} P i olds news lent new is low read here =
    let next : suc i ≡ i + 1 = omega arith in
    subst (λ n. IsWalked P n olds (slice_set news i new)) next (step P i olds news lent new is low (subst (λ (x : X). P x new) read here))

-- A walk to the end has changed each element.
pub walk_all : {X : Type 0} (P : X → X → Type 0) (i : ℕ) (olds news : List X) → length olds ≤ i → IsWalked P i olds news → IsEach P olds news
walk_all {X} P zero [] news high is = subst (λ (l : List X). IsEach P [] l) (sym is) tt
walk_all P zero (old ∷ olds) news high is = absurd (omega arith)
walk_all {X} P (suc i) [] news high is = subst (λ (l : List X). IsEach P [] l) (sym is) tt
walk_all P (suc i) (old ∷ olds) [] high is = absurd is
walk_all P (suc i) (old ∷ olds) (new ∷ news) high is = (is.0, walk_all P i olds news (omega arith) is.1)

-- ---- entries of a map

module _ {K V : Type 0} (Q : K → V → V → Type 0) where
  entry_step : (i : ℕ) (olds news : List (K × V)) (key : K) (lent new : V) → IsWalked (IsEntry Q) i olds news → slice_get news i ≡ Some (key, lent) → Q key lent new → IsWalked (IsEntry Q) (suc i) olds (set_value_at news i new)
  entry_step zero [] news key lent new is read here =
      let none : slice_get [] 0 ≡ Some (key, lent) = subst (λ (l : List (K × V)). slice_get l 0 ≡ Some (key, lent)) is read in
      absurd cc
  entry_step (suc i) [] news key lent new is read here =
      let none : slice_get [] (suc i) ≡ Some (key, lent) = subst (λ (l : List (K × V)). slice_get l (suc i) ≡ Some (key, lent)) is read in
      absurd cc
  entry_step zero (old ∷ olds) news key lent new is read here =
      let there : Some old ≡ Some (key, lent) = subst (λ (l : List (K × V)). slice_get l 0 ≡ Some (key, lent)) is read in
      let one : old ≡ (key, lent) = cc in
      subst (λ (l : List (K × V)). IsWalked (IsEntry Q) 1 (old ∷ olds) (set_value_at l 0 new)) (sym is)
      ((refl, subst (λ (e : K × V). Q e.0 e.1 new) (sym one) here), refl)
  entry_step (suc i) (old ∷ olds) [] key lent new is read here = absurd is
  entry_step (suc i) (old ∷ olds) (x ∷ news) key lent new is read here = (is.0, entry_step i olds news key lent new is.1 read here)

  -- one entry more
  pub entry_more : (i : ℕ) (olds news : List (K × V)) (key : K) (lent new : V) → IsWalked (IsEntry Q) i olds news → slice_get news i ≡ Some (key, lent) → Q key lent new → IsWalked (IsEntry Q) (i + 1) olds (set_value_at news i new)
  entry_more i olds news key lent new is read here =
      let next : suc i ≡ i + 1 = omega arith in
      subst (λ n. IsWalked (IsEntry Q) n olds (set_value_at news i new)) next (entry_step i olds news key lent new is read here)

  same_step : (i : ℕ) (olds news : List (K × V)) (key : K) (lent : V) → IsWalked (IsEntry Q) i olds news → slice_get news i ≡ Some (key, lent) → Q key lent lent → IsWalked (IsEntry Q) (suc i) olds news
  same_step zero [] news key lent is read here =
      let none : slice_get [] 0 ≡ Some (key, lent) = subst (λ (l : List (K × V)). slice_get l 0 ≡ Some (key, lent)) is read in
      absurd cc
  same_step (suc i) [] news key lent is read here = is
  same_step zero (old ∷ olds) news key lent is read here =
      let there : Some old ≡ Some (key, lent) = subst (λ (l : List (K × V)). slice_get l 0 ≡ Some (key, lent)) is read in
      let one : old ≡ (key, lent) = cc in
      subst (λ (l : List (K × V)). IsWalked (IsEntry Q) 1 (old ∷ olds) l) (sym is) ((refl, subst (λ (e : K × V). Q e.0 e.1 e.1) (sym one) here), refl)
  same_step (suc i) (old ∷ olds) [] key lent is read here = absurd is
  same_step (suc i) (old ∷ olds) (x ∷ news) key lent is read here = (is.0, same_step i olds news key lent is.1 read here)

  -- one entry more, which stays as it is
  pub entry_same : (i : ℕ) (olds news : List (K × V)) (key : K) (lent : V) → IsWalked (IsEntry Q) i olds news → slice_get news i ≡ Some (key, lent) → Q key lent lent → IsWalked (IsEntry Q) (i + 1) olds news
  entry_same i olds news key lent is read here =
      let next : suc i ≡ i + 1 = omega arith in
      subst (λ n. IsWalked (IsEntry Q) n olds news) next (same_step i olds news key lent is read here)

  -- the value that a test finds, after the walk
  pub found_each : (test : K → Bool) (olds news : List (K × V)) → IsEach (IsEntry Q) olds news → IsFound test Q (lookup test olds) (lookup test news)
  found_each test [] [] each = tt
  found_each test [] (new ∷ news) each = absurd each
  found_each test (old ∷ olds) [] each = absurd each
  found_each test (old ∷ olds) (new ∷ news) each = elim (cases_Bool (test old.0)) [
    | inl here ↦
        let there : test new.0 ≡ true = ap test each.0.0 ∙ here in
        subst (λ b. IsFound test Q (cond b (Some old.1) (lookup test olds)) (cond (test new.0) (Some new.1) (lookup test news))) (sym here)
        (subst (λ b. IsFound test Q (Some old.1) (cond b (Some new.1) (lookup test news))) (sym there) (old.0, (here, each.0.1)))
    | inr gone ↦
        let away : test new.0 ≡ false = ap test each.0.0 ∙ gone in
        subst (λ b. IsFound test Q (cond b (Some old.1) (lookup test olds)) (cond (test new.0) (Some new.1) (lookup test news))) (sym gone)
        (subst (λ b. IsFound test Q (lookup test olds) (cond b (Some new.1) (lookup test news))) (sym away) (found_each test olds news each.1))
  ]
