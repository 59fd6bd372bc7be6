-- How the counts of cells change as a place is emptied or filled.
use Rattle.std.proofs.Common.{◌≡◌, ℕ, ◌+◌, ◌*◌, ◌<◌, ◌≤◌, Bool, false, List, length, get_or, replicate, Option, Some, None, cond, count_by, eqb, refl, sym, ap, ◌∙◌, inl, inr, arith}
use Rattle.std.proofs.Math.ListN.{set}
use Rattle.std.proofs.lemmas.Bool.{cases_eq, cases_lt}
use Rattle.std.proofs.lemmas.Bool.Decides.{nat_tests}
use Rattle.std.proofs.lemmas.List.{get_or-set_same, get_or-set_other, get_or_past, get_or-replicate, length-replicate}
use Rattle.std.proofs.lemmas.List.Folds.{sum_by-replicate}
use Rattle.std.proofs.lemmas.Option.{slice_get_read, get_or_from_slice_get}
use Rattle.std.proofs.lemmas.List.Sums.{sum_by-set, count_by-le-length}
use Rattle.front_workers.specs.declared.filled_cells.Filled.{Filled}
use Rattle.front_workers.specs.FilledCells.{is_of}

-- one, if a test holds
abbrev one_if : Bool → ℕ
one_if b = cond b 1 0

same_counts : (a b : ℕ) → a ≡ b → one_if (eqb a b) ≡ 1
same_counts a b same = grind (arith, nat_tests, same)

other_counts : (a b : ℕ) → (a ≡ b → ⊥) → one_if (eqb a b) ≡ 0
other_counts a b other = grind (arith, nat_tests, other)

-- An element that is there, read with a default.
pub read_as : {A : Type 0} (xs : List A) (i : ℕ) (x d : A) → i < length xs → x ≡ get_or xs i x → get_or xs i d ≡ x
read_as xs i x d within is = get_or_from_slice_get xs i x d (slice_get_read xs (length xs) i x refl within is)

-- A fact that is true of no value is true of None alone.
pub only_none : {X : Type 0} (P : Option X → Type 0) → ((x : X) → P (Some x) → ⊥) → (o : Option X) → P o → o ≡ None
only_none P never None is = refl
only_none P never (Some x) is = absurd (never x is)

-- No counter has counted a cell,
pub read_zero : (counters counter : ℕ) → get_or (replicate {A = ℕ} counters 0) counter 0 ≡ 0
read_zero counters counter = elim (cases_lt counter counters) [
  | inl known ↦ get_or-replicate counters counter 0 0 known
  | inr past ↦ get_or_past (replicate {A = ℕ} counters 0) counter 0 (rw length-replicate past)
]

-- where no place has one.
pub none_counted : (p : Option Filled → Bool) (count : ℕ) → p None ≡ false → count_by p (replicate count None) ≡ 0
none_counted p count none =
    let zero : count * one_if false ≡ 0 = omega arith in
    sum_by-replicate (λ (cell : Option Filled). one_if (p cell)) count None ∙ ap (λ (b : Bool). count * one_if b) none ∙ zero

module _ (places : List (Option Filled)) (place : ℕ) (within : place < length places) where
  written : (p : Option Filled → Bool) (new : Option Filled) → count_by p (set places place new) + one_if (p (get_or places place None)) ≡ count_by p places + one_if (p new)
  written p new = sum_by-set (λ (cell : Option Filled). one_if (p cell)) places place new None within

  -- A place is emptied that had a cell.
  pub emptied : (p : Option Filled → Bool) (cell : Filled) → p None ≡ false → get_or places place None ≡ Some cell → count_by p (set places place None) + one_if (p (Some cell)) ≡ count_by p places
  emptied p cell none is = omega (arith, written p None, ap (λ (c : Option Filled). one_if (p c)) is, ap one_if none)

  -- An empty place is filled.
  pub filled : (p : Option Filled → Bool) (cell : Filled) → p None ≡ false → get_or places place None ≡ None → count_by p (set places place (Some cell)) ≡ count_by p places + one_if (p (Some cell))
  filled p cell none is = omega (arith, written p (Some cell), ap (λ (c : Option Filled). one_if (p c)) is, ap one_if none)

  module _ (held : List ℕ) (each : (counter : ℕ) → get_or held counter 0 ≡ count_by (is_of counter) places) where
    -- The counter of a cell has counted it,
    pub is_counted : (cell : Filled) → get_or places place None ≡ Some cell → 1 ≤ get_or held cell.counter 0
    is_counted cell is = omega (arith, each cell.counter, emptied (is_of cell.counter) cell refl is, same_counts cell.counter cell.counter refl)

    -- so there is that counter.
    pub is_known : (cell : Filled) → get_or places place None ≡ Some cell → cell.counter < length held
    is_known cell is = elim (cases_lt cell.counter (length held)) [
      | inl known ↦ known
      | inr past ↦ absurd (omega (arith, is_counted cell is, get_or_past held cell.counter 0 past))
    ]

    pub filled_each : (cell : Filled) → get_or places place None ≡ None → cell.counter < length held → (counter : ℕ)
        → get_or (set held cell.counter (get_or held cell.counter 0 + 1)) counter 0 ≡ count_by (is_of counter) (set places place (Some cell))
    filled_each cell is known counter = elim (cases_eq counter cell.counter) [
      | inl same ↦ omega (
        arith,
        ap (λ (n : ℕ). get_or (set held cell.counter (get_or held cell.counter 0 + 1)) n 0) same,
        get_or-set_same held cell.counter (get_or held cell.counter 0 + 1) 0 known,
        each cell.counter,
        ap (λ (n : ℕ). count_by (is_of n) (set places place (Some cell))) same,
        filled (is_of cell.counter) cell refl is,
        same_counts cell.counter cell.counter refl,
      )
      | inr other ↦ omega (
        arith,
        get_or-set_other held cell.counter counter (get_or held cell.counter 0 + 1) 0 other,
        each counter,
        filled (is_of counter) cell refl is,
        other_counts cell.counter counter (λ e. other (sym e)),
      )
    ]

    -- No counter has counted more cells than there are places.
    pub few_held : (counter : ℕ) → get_or held counter 0 ≤ length places
    few_held counter = omega (arith, each counter, count_by-le-length (is_of counter) places)
