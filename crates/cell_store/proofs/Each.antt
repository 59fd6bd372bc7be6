-- Loops that change each element of a list.
use Rattle.std.proofs.Common.{◌≡◌, ℕ, ◌+◌, ◌<◌, Bool, true, List, [], ◌∷◌, ◌++◌, length, get_or, take, drop, map, sym, ap, ◌∙◌, arith, slice_set}
use Rattle.std.proofs.Common.{inl, inr}
use Rattle.std.proofs.lemmas.Bool.{false≢true}
use Rattle.std.specs.List.{list_any, refill}
use Rattle.std.proofs.lemmas.List.{get_or_default, length-set}
use Rattle.std.proofs.Math.Seq.{take-append_seam}
use Rattle.std.proofs.lemmas.List.Edits.{map_over_more}
use Rattle.cell_store.specs.TestLaws.{either, or_left, or_right}

-- one element more is changed
pub each_more : {X : Type 0} (f : X → X) (xs ys : List X) (i : ℕ) (d y : X) → i < length xs → length ys ≡ length xs
    → ys ≡ map f (take i xs) ++ drop i xs → y ≡ f (get_or ys i d) → slice_set ys i y ≡ map f (take (i + 1) xs) ++ drop (i + 1) xs
each_more f xs ys i d y within same_length so_far is =
    let x = get_or ys i d in
    let below : i < length ys = omega arith in
    let read : get_or ys i d ≡ get_or ys i (get_or ys i d) = get_or_default ys i d (get_or ys i d) below in
    ap (λ v. slice_set ys i v) is ∙ map_over_more f xs ys i (get_or ys i d) within so_far read

-- a list of which all elements are written
pub refilled : {X : Type 0} (xs ws : List X) → length ws ≡ length xs → refill (length xs) xs ws ≡ ws
refilled xs ws same = ap (λ n. take n (ws ++ drop (length ws) xs)) (sym same) ∙ take-append_seam ws (drop (length ws) xs)

-- a list of which one element is written
pub refilled_set : {X : Type 0} (xs ys : List X) (i : ℕ) (x : X) → ys ≡ xs → refill (length xs) xs (slice_set ys i x) ≡ slice_set xs i x
refilled_set {X} xs ys i x same = refilled xs (slice_set ys i x) (length-set ys i x ∙ ap length same) ∙ ap (λ (l : List X). slice_set l i x) same

-- a fact of each element, kept by the change
pub any_map : {X Y : Type 0} (p : X → Bool) (q : Y → Bool) (f : X → Y) → ((x : X) → p x ≡ true → q (f x) ≡ true) → (xs : List X) → list_any p xs ≡ true → list_any q (map f xs) ≡ true
any_map p q f step [] is = absurd (false≢true is)
any_map p q f step (x ∷ xs) is = elim (either (p x) (list_any p xs) is) [
  | inl here ↦ or_left (q (f x)) (list_any q (map f xs)) (step x here)
  | inr later ↦ or_right (q (f x)) (list_any q (map f xs)) (any_map p q f step xs later)
]
