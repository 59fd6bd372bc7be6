-- The moments that are sure: those of the names about which no flush that has gone leaves a doubt.
use Rattle.std.proofs.Common.{◌≡◌, ℕ, zero, suc, ◌-◌, ◌<◌, ◌≤◌, Bool, true, false, cond, List, [], ◌∷◌, ◌++◌, length, take, get_or, refl, sym, ap, ◌∙◌, subst, arith, inl, inr}
use Rattle.std.specs.Prelude.{nat_lt, replicate, slice_get, swap_remove, IfSome}
use Rattle.std.proofs.Math.ListN.{set, length-set}
use Rattle.std.proofs.lemmas.List.{get_or-set_same, get_or-set_other, get_or-take, get_or_past, length-take-le}
use Rattle.dns_name.specs.Labels.{Labels}
use Rattle.cell_store.specs.declared.owner.OwnerCells.{OwnerCells}
use Rattle.shelf.specs.declared.shelf.KeptFlush.{KeptFlush}
use Rattle.shelf.specs.Clean.{fitted, zeros_to, AreKeyed, HasLowered, IsLower}
use Rattle.shelf.specs.Lasts.{AreLow}
use Rattle.shelf.proofs.GapLaws.{read_away, read_here, swap_size}
use Rattle.shelf.proofs.ListLaws.{always_some, lt_or, same_or, set_zero}

-- ---- zeros before a place

pub zeros_length : (n : ℕ) (l : List ℕ) → length (zeros_to n l) ≡ length l
zeros_length zero l = refl
zeros_length (suc n) [] = refl
zeros_length (suc n) (x ∷ l) = ap suc (zeros_length n l)

pub zeros_low : (n : ℕ) (l : List ℕ) (i : ℕ) → i < n → get_or (zeros_to n l) i 0 ≡ 0
zeros_low zero l i low = absurd (omega arith)
zeros_low (suc n) [] i low = get_or_past [] i 0 (omega arith)
zeros_low (suc n) (x ∷ l) zero low = refl
zeros_low (suc n) (x ∷ l) (suc i) low = zeros_low n l i (omega arith)

pub zeros_high : (n : ℕ) (l : List ℕ) (i : ℕ) → n ≤ i → get_or (zeros_to n l) i 0 ≡ get_or l i 0
zeros_high zero l i high = refl
zeros_high (suc n) [] i high = refl
zeros_high (suc n) (x ∷ l) zero high = absurd (omega arith)
zeros_high (suc n) (x ∷ l) (suc i) high = zeros_high n l i (omega arith)

pub zeros_set : (n : ℕ) (l : List ℕ) (p : ℕ) → zeros_to n (set l p 0) ≡ set (zeros_to n l) p 0
zeros_set zero l p = refl
zeros_set (suc n) [] p = refl
zeros_set (suc n) (x ∷ l) zero = refl
zeros_set (suc n) (x ∷ l) (suc p) = ap (λ (r : List ℕ). 0 ∷ r) (zeros_set n l p)

zeros_empty : (n : ℕ) → zeros_to n [] ≡ []
zeros_empty zero = refl
zeros_empty (suc n) = refl

pub zeros_more : (n : ℕ) (l : List ℕ) → zeros_to n (l ++ 0 ∷ []) ≡ zeros_to n l ++ 0 ∷ []
zeros_more zero l = refl
zeros_more (suc n) [] = ap (λ (r : List ℕ). 0 ∷ r) (zeros_empty n)
zeros_more (suc n) (x ∷ l) = ap (λ (r : List ℕ). 0 ∷ r) (zeros_more n l)

pub zeros_take : (n k : ℕ) (l : List ℕ) → zeros_to n (take k l) ≡ take k (zeros_to n l)
zeros_take zero k l = refl
zeros_take (suc n) zero l = refl
zeros_take (suc n) (suc k) [] = refl
zeros_take (suc n) (suc k) (x ∷ l) = ap (λ (r : List ℕ). 0 ∷ r) (zeros_take n k l)

pub zeros_none : (n k : ℕ) → zeros_to n (replicate k 0) ≡ replicate k 0
zeros_none zero k = refl
zeros_none (suc n) zero = refl
zeros_none (suc n) (suc k) = ap (λ (r : List ℕ). 0 ∷ r) (zeros_none n k)

-- ---- each as it was, or 0

pub lower_same : (was now : List ℕ) → now ≡ was → IsLower was now
lower_same was now is = record { size = ap length is; each = λ i. inr (ap (λ (l : List ℕ). get_or l i 0) is) }

pub zeros_lower : (n : ℕ) (l : List ℕ) → IsLower l (zeros_to n l)
zeros_lower n l = record {
  size = zeros_length n l;
  each = λ i. elim (lt_or i n) [ inl low ↦ inl (zeros_low n l i low) | inr high ↦ inr (zeros_high n l i high) ];
}

pub lower_zero : (l : List ℕ) (place : ℕ) → IsLower l (set l place 0)
lower_zero l place = record {
  size = length-set l place 0;
  each = λ i. elim (same_or i place) [
    | inl here ↦ inl (ap (λ n. get_or (set l place 0) n 0) here ∙ set_zero l place)
    | inr off ↦ inr (get_or-set_other l place i 0 0 off)
  ];
}

pub lowered_most : (place old new : ℕ) → HasLowered place old new → new ≤ old
lowered_most place old new (inl same) = omega (arith, same)
lowered_most place old new (inr less) = omega (arith, less.0, less.1)

lowered_past : (place old new i : ℕ) → HasLowered place old new → new ≤ i → (i ≡ place → ⊥) → old ≤ i
lowered_past place old new i (inl same) past off = omega (arith, same, past)
lowered_past place old new i (inr less) past off = omega (arith, less.0, less.1, past, off)

lowered_last : (place old new last : ℕ) → HasLowered place old new → new ≤ place → place < last → old ≤ last
lowered_last place old new last (inl same) past more = omega (arith, same, past, more)
lowered_last place old new last (inr less) past more = omega (arith, less.1, more)

pub lower_put : (l : List ℕ) (place end old new : ℕ) → place < length l → HasLowered place old new → IsLower (set (zeros_to old l) place end) (zeros_to new (set l place end))
lower_put l place end old new low lowered = record {
  size = zeros_length new (set l place end) ∙ (length-set l place end ∙ (sym (zeros_length old l) ∙ sym (length-set (zeros_to old l) place end)));
  each = λ i. elim (lt_or i new) [
    | inl before ↦ inl (zeros_low new (set l place end) i before)
    | inr past ↦ inr (zeros_high new (set l place end) i past ∙ elim (same_or i place) [
      | inl here ↦
          ap (λ n. get_or (set l place end) n 0) here
          ∙ (get_or-set_same l place end 0 low
          ∙ (sym (get_or-set_same (zeros_to old l) place end 0 (omega (arith, low, zeros_length old l)))
          ∙ sym (ap (λ n. get_or (set (zeros_to old l) place end) n 0) here)))
      | inr off ↦
          get_or-set_other l place i end 0 off
          ∙ (sym (zeros_high old l i (lowered_past place old new i lowered past off))
          ∙ sym (get_or-set_other (zeros_to old l) place i end 0 off))
    ])
  ];
}

pub lower_swap : (l : List ℕ) (place old new : ℕ) → place < length l → HasLowered place old new → IsLower (swap_remove (zeros_to old l) place 0) (zeros_to new (swap_remove l place 0))
lower_swap l place old new low lowered = record {
  size = zeros_length new (swap_remove l place 0) ∙ (swap_size l place 0 ∙ (ap (λ n. n - 1) (sym wide) ∙ sym (swap_size (zeros_to old l) place 0)));
  each = λ i. elim (lt_or i new) [
    | inl before ↦ inl (zeros_low new (swap_remove l place 0) i before)
    | inr past ↦ elim (lt_or i (length l - 1)) [
      | inr far ↦ inl (zeros_high new (swap_remove l place 0) i past ∙ get_or_past (swap_remove l place 0) i 0 (omega (arith, far, swap_size l place 0)))
      | inl near ↦ inr (zeros_high new (swap_remove l place 0) i past ∙ there i past near)
    ]
  ];
}
  where
    wide : length (zeros_to old l) ≡ length l
    wide = zeros_length old l

    there : (i : ℕ) → new ≤ i → i < length l - 1 → get_or (swap_remove l place 0) i 0 ≡ get_or (swap_remove (zeros_to old l) place 0) i 0
    there i past near = elim (same_or i place) [
      | inl here ↦
          let more : place < length l - 1 = omega (arith, near, here) in
          let mine : get_or (swap_remove l place 0) place 0 ≡ get_or l (length l - 1) 0 = read_here l place more in
          let other : get_or (swap_remove (zeros_to old l) place 0) place 0 ≡ get_or (zeros_to old l) (length l - 1) 0 =
          read_here (zeros_to old l) place (omega (arith, more, wide)) ∙ ap (λ n. get_or (zeros_to old l) (n - 1) 0) wide in
          ap (λ n. get_or (swap_remove l place 0) n 0) here
          ∙ (mine ∙ (sym (zeros_high old l (length l - 1) (lowered_last place old new (length l - 1) lowered (omega (arith, past, here)) more))
          ∙ (sym other ∙ sym (ap (λ n. get_or (swap_remove (zeros_to old l) place 0) n 0) here))))
      | inr off ↦
          read_away l place i off (λ same. omega (arith, same, near))
          ∙ (sym (zeros_high old l i (lowered_past place old new i lowered past off))
          ∙ sym (read_away (zeros_to old l) place i off (λ same. omega (arith, same, near, wide))))
    ]

-- ---- what stays true

pub keyed_lower : (P : Labels × OwnerCells → ℕ → Type 0) → ((e : Labels × OwnerCells) → P e 0) → (entries : List (Labels × OwnerCells)) (was now : List ℕ) → IsLower was now → AreKeyed P entries was → AreKeyed P entries now
keyed_lower P start entries was now lower keyed = record {
  size = lower.size ∙ keyed.size;
  each = λ i. elim (lower.each i) [
    | inl none ↦ subst (λ n. IfSome (slice_get entries i) (λ e. P e n)) (sym none) (always_some (λ e. P e 0) (slice_get entries i) start)
    | inr same ↦ subst (λ n. IfSome (slice_get entries i) (λ e. P e n)) (sym same) (keyed.each i)
  ];
}

pub low_lower : (kept : List KeptFlush) (entries : List (Labels × OwnerCells)) (was now lasts : List ℕ) → IsLower was now → AreLow kept entries was lasts → AreLow kept entries now lasts
low_lower kept entries was now lasts lower is i some = elim (lower.each i) [
  | inl none ↦ absurd (omega (arith, some, none))
  | inr same ↦ is i (omega (arith, some, same))
]

pub lower_twice : (a b c : List ℕ) → IsLower a b → IsLower b c → IsLower a c
lower_twice a b c first then = record {
  size = then.size ∙ first.size;
  each = λ i. elim (then.each i) [
    | inl none ↦ inl none
    | inr same ↦ elim (first.each i) [ inl none ↦ inl (same ∙ none) | inr before ↦ inr (same ∙ before) ]
  ];
}

lower_take : (k : ℕ) (was now : List ℕ) → k ≤ length was → IsLower was now → IsLower (take k was) (take k now)
lower_take k was now short lower = record {
  size = length-take-le k now (omega (arith, lower.size, short)) ∙ sym (length-take-le k was short);
  each = λ i. elim (lt_or i k) [
    | inl near ↦ elim (lower.each i) [
      | inl none ↦ inl (get_or-take k now i 0 near ∙ none)
      | inr same ↦ inr (get_or-take k now i 0 near ∙ (same ∙ sym (get_or-take k was i 0 near)))
    ]
    | inr far ↦ inl (get_or_past (take k now) i 0 (omega (arith, far, length-take-le k now (omega (arith, lower.size, short)))))
  ];
}

pub lower_fitted : (n : ℕ) (was now : List ℕ) → IsLower was now → IsLower (fitted n was) (fitted n now)
lower_fitted n was now lower =
    subst (λ m. IsLower (fitted n was) (cond (nat_lt n m) (take (m - 1) now) now)) (sym lower.size) (split (nat_lt n (length was)))
  where
    split : (b : Bool) → IsLower (cond b (take (length was - 1) was) was) (cond b (take (length was - 1) now) now)
    split true = lower_take (length was - 1) was now (omega arith) lower
    split false = lower
