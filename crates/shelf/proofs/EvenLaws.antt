-- The moments of the names that are not mixed.
use Rattle.std.proofs.Common.{◌≡◌, ℕ, zero, suc, ◌+◌, ◌-◌, ◌<◌, ◌≤◌, Bool, true, false, cond, Option, Some, None, List, [], ◌∷◌, ◌++◌, length, take, get_or, refl, sym, ap, subst, ◌∙◌, arith, inl, inr}
use Rattle.std.specs.Prelude.{nat_lt, replicate, swap_remove, IfSome}
use Rattle.std.proofs.Math.ListN.{set, length-set, length-append}
use Rattle.std.proofs.lemmas.List.{get_or_past, length-replicate, length-take-le}
use Rattle.std.proofs.lemmas.Bool.Decides.{nat_tests}
use Rattle.shelf.specs.Clean.{evens, evens_of, fitted, sure, touched, touched_at, zeros_to, AreBy, AreEvened, EndsMixed, HasLowered, IsLower}
use Rattle.shelf.specs.Lasts.{AreSameLasts}
use Rattle.shelf.specs.declared.ends.Ends.{Ends}
use Rattle.shelf.proofs.DoubtLaws.{lower_same, lower_swap, lower_zero, lowered_most, zeros_high, zeros_length, zeros_low, zeros_lower, zeros_more, zeros_none, zeros_set, zeros_take}
use Rattle.shelf.proofs.ListLaws.{lt_or}

pub evens_length : (ends : List ℕ) (mixed : List Bool) → length (evens_of ends mixed) ≡ length ends
evens_length [] mixed = refl
evens_length (e ∷ ends) [] = ap suc (evens_length ends [])
evens_length (e ∷ ends) (m ∷ mixed) = ap suc (evens_length ends mixed)

either_zero : (m : Bool) → cond {A = ℕ} m 0 0 ≡ 0
either_zero true = refl
either_zero false = refl

-- a moment is 0
pub evens_zero : (ends : List ℕ) (mixed : List Bool) (i : ℕ) → evens_of (set ends i 0) mixed ≡ set (evens_of ends mixed) i 0
evens_zero [] mixed i = refl
evens_zero (e ∷ ends) [] zero = refl
evens_zero (e ∷ ends) [] (suc i) = ap (λ (l : List ℕ). 0 ∷ l) (evens_zero ends [] i)
evens_zero (e ∷ ends) (m ∷ mixed) zero = ap (λ n. n ∷ evens_of ends mixed) (either_zero m)
evens_zero (e ∷ ends) (m ∷ mixed) (suc i) = ap (λ (l : List ℕ). cond m 0 e ∷ l) (evens_zero ends mixed i)

-- a moment and its flag
pub evens_put : (ends : List ℕ) (mixed : List Bool) (i end : ℕ) (m : Bool) → length mixed ≡ length ends → evens_of (set ends i end) (set mixed i m) ≡ set (evens_of ends mixed) i (cond m 0 end)
evens_put [] mixed i end m size = refl
evens_put (e ∷ ends) [] i end m size = absurd (omega (arith, size))
evens_put (e ∷ ends) (x ∷ mixed) zero end m size = refl
evens_put (e ∷ ends) (x ∷ mixed) (suc i) end m size = ap (λ (l : List ℕ). cond x 0 e ∷ l) (evens_put ends mixed i end m (omega (arith, size)))

pub evens_more : (ends : List ℕ) (mixed : List Bool) → length mixed ≡ length ends → evens_of (ends ++ 0 ∷ []) (mixed ++ false ∷ []) ≡ evens_of ends mixed ++ 0 ∷ []
evens_more [] [] size = refl
evens_more [] (x ∷ mixed) size = absurd (omega (arith, size))
evens_more (e ∷ ends) [] size = absurd (omega (arith, size))
evens_more (e ∷ ends) (x ∷ mixed) size = ap (λ (l : List ℕ). cond x 0 e ∷ l) (evens_more ends mixed (omega (arith, size)))

pub evens_take : (n : ℕ) (ends : List ℕ) (mixed : List Bool) → length mixed ≡ length ends → evens_of (take n ends) (take n mixed) ≡ take n (evens_of ends mixed)
evens_take zero ends mixed size = refl
evens_take (suc n) [] [] size = refl
evens_take (suc n) [] (x ∷ mixed) size = refl
evens_take (suc n) (e ∷ ends) [] size = absurd (omega (arith, size))
evens_take (suc n) (e ∷ ends) (x ∷ mixed) size = ap (λ (l : List ℕ). cond x 0 e ∷ l) (evens_take n ends mixed (omega (arith, size)))

pub evens_read : (ends : List ℕ) (mixed : List Bool) (i : ℕ) (d : Bool) → length mixed ≡ length ends → i < length ends → get_or (evens_of ends mixed) i 0 ≡ cond (get_or mixed i d) 0 (get_or ends i 0)
evens_read [] mixed i d size low = absurd (omega arith)
evens_read (e ∷ ends) [] i d size low = absurd (omega (arith, size))
evens_read (e ∷ ends) (x ∷ mixed) zero d size low = refl
evens_read (e ∷ ends) (x ∷ mixed) (suc i) d size low = evens_read ends mixed i d (omega (arith, size)) (omega arith)

pub evens_swap : (ends : List ℕ) (mixed : List Bool) (i : ℕ) (d : Bool) → length mixed ≡ length ends → i < length ends → evens_of (swap_remove ends i 0) (swap_remove mixed i d) ≡ swap_remove (evens_of ends mixed) i 0
evens_swap ends mixed i d size low =
    let last = length ends - 1 in
    let same : length mixed - 1 ≡ last = omega (arith, size) in
    let size' : length (set mixed i (get_or mixed last d)) ≡ length (set ends i (get_or ends last 0)) = omega (arith, length-set mixed i (get_or mixed last d), length-set ends i (get_or ends last 0), size) in
    ap (λ n. evens_of (take last (set ends i (get_or ends last 0))) (take n (set mixed i (get_or mixed n d)))) same
    ∙ (evens_take last (set ends i (get_or ends last 0)) (set mixed i (get_or mixed last d)) size'
    ∙ (ap (take last) (evens_put ends mixed i (get_or ends last 0) (get_or mixed last d) size ∙ ap (λ n. set (evens_of ends mixed) i n) (sym (evens_read ends mixed last d size (omega arith))))
    ∙ sym (ap (λ n. take (n - 1) (set (evens_of ends mixed) i (get_or (evens_of ends mixed) (n - 1) 0))) (evens_length ends mixed))))

pub evens_none : (n : ℕ) (mixed : List Bool) → evens_of (replicate n 0) mixed ≡ replicate n 0
evens_none zero mixed = refl
evens_none (suc n) [] = ap (λ (l : List ℕ). 0 ∷ l) (evens_none n [])
evens_none (suc n) (m ∷ mixed) = (λ i. either_zero m i ∷ evens_none n mixed i)

-- the moments of the first names alone
abbrev pub evens_to : ℕ → List ℕ → List Bool → List ℕ
evens_to zero ends mixed = ends
evens_to (suc i) [] mixed = []
evens_to (suc i) (end ∷ ends) [] = 0 ∷ evens_to i ends []
evens_to (suc i) (end ∷ ends) (mixed ∷ more) = cond mixed 0 end ∷ evens_to i ends more

pub to_length : (i : ℕ) (ends : List ℕ) (mixed : List Bool) → length (evens_to i ends mixed) ≡ length ends
to_length zero ends mixed = refl
to_length (suc i) [] mixed = refl
to_length (suc i) (e ∷ ends) [] = ap suc (to_length i ends [])
to_length (suc i) (e ∷ ends) (m ∷ mixed) = ap suc (to_length i ends mixed)

pub to_all : (i : ℕ) (ends : List ℕ) (mixed : List Bool) → length ends ≤ i → evens_to i ends mixed ≡ evens_of ends mixed
to_all zero [] mixed high = refl
to_all zero (e ∷ ends) mixed high = absurd (omega arith)
to_all (suc i) [] mixed high = refl
to_all (suc i) (e ∷ ends) [] high = ap (λ (l : List ℕ). 0 ∷ l) (to_all i ends [] (omega arith))
to_all (suc i) (e ∷ ends) (m ∷ mixed) high = ap (λ (l : List ℕ). cond m 0 e ∷ l) (to_all i ends mixed (omega arith))

to_zero : (i : ℕ) (ends : List ℕ) (mixed : List Bool) (d : Bool) → i < length mixed → get_or mixed i d ≡ true → evens_to (suc i) ends mixed ≡ set (evens_to i ends mixed) i 0
to_zero i ends [] d low is = absurd (omega arith)
to_zero zero [] (m ∷ mixed) d low is = refl
to_zero (suc i) [] (m ∷ mixed) d low is = refl
to_zero zero (e ∷ ends) (m ∷ mixed) d low is = ap (λ b. cond b 0 e ∷ ends) is
to_zero (suc i) (e ∷ ends) (m ∷ mixed) d low is = ap (λ (l : List ℕ). cond m 0 e ∷ l) (to_zero i ends mixed d (omega arith) is)

to_same : (i : ℕ) (ends : List ℕ) (mixed : List Bool) (d : Bool) → i < length mixed → get_or mixed i d ≡ false → evens_to (suc i) ends mixed ≡ evens_to i ends mixed
to_same i ends [] d low is = absurd (omega arith)
to_same zero [] (m ∷ mixed) d low is = refl
to_same (suc i) [] (m ∷ mixed) d low is = refl
to_same zero (e ∷ ends) (m ∷ mixed) d low is = ap (λ b. cond b 0 e ∷ ends) is
to_same (suc i) (e ∷ ends) (m ∷ mixed) d low is = ap (λ (l : List ℕ). cond m 0 e ∷ l) (to_same i ends mixed d (omega arith) is)

pub next_zero : (i : ℕ) (ends : List ℕ) (mixed : List Bool) (d : Bool) → i < length mixed → get_or mixed i d ≡ true → evens_to (i + 1) ends mixed ≡ set (evens_to i ends mixed) i 0
next_zero i ends mixed d low is = let next : i + 1 ≡ suc i = omega arith in ap (λ n. evens_to n ends mixed) next ∙ to_zero i ends mixed d low is

pub next_same : (i : ℕ) (ends : List ℕ) (mixed : List Bool) (d : Bool) → i < length mixed → get_or mixed i d ≡ false → evens_to (i + 1) ends mixed ≡ evens_to i ends mixed
next_same i ends mixed d low is = let next : i + 1 ≡ suc i = omega arith in ap (λ n. evens_to n ends mixed) next ∙ to_same i ends mixed d low is

pub evens_twice : (ends : List ℕ) (mixed : List Bool) → evens_of (evens_of ends mixed) mixed ≡ evens_of ends mixed
evens_twice [] mixed = refl
evens_twice (e ∷ ends) [] = ap (λ (l : List ℕ). 0 ∷ l) (evens_twice ends [])
evens_twice (e ∷ ends) (true ∷ mixed) = ap (λ (l : List ℕ). 0 ∷ l) (evens_twice ends mixed)
evens_twice (e ∷ ends) (false ∷ mixed) = ap (λ (l : List ℕ). e ∷ l) (evens_twice ends mixed)

-- ---- the place of a name

find_some : (p n place : ℕ) → Some place ≡ cond (nat_lt p n) (Some p) None → (place ≡ p) × (p < n)
find_some p n place is = split (nat_lt p n) refl is
  where
    split : (b : Bool) → nat_lt p n ≡ b → Some place ≡ cond b (Some p) None → (place ≡ p) × (p < n)
    split true low is = ((let one : Some place ≡ Some p = is in cc), grind (arith, nat_tests))
    split false high is = let none : Some place ≡ None = is in absurd cc

find_none : (p n : ℕ) → None ≡ cond (nat_lt p n) (Some p) None → n ≤ p
find_none p n is = split (nat_lt p n) refl is
  where
    split : (b : Bool) → nat_lt p n ≡ b → None ≡ cond b (Some p) None → n ≤ p
    split true low is = let none : None ≡ Some p = is in absurd cc
    split false high is = grind (arith, nat_tests)

-- a place that a look-up has found is a low one
pub low_place : (p n : ℕ) (place : Option ℕ) → place ≡ cond (nat_lt p n) (Some p) None → IfSome place (λ q. q < n)
low_place p n place is = subst (λ (o : Option ℕ). IfSome o (λ q. q < n)) (sym is) (split (nat_lt p n) refl)
  where
    split : (b : Bool) → nat_lt p n ≡ b → IfSome (cond b (Some p) None) (λ q. q < n)
    split true low = grind (arith, nat_tests)
    split false high = tt

-- and a name that is past the others has none
pub none_past : (p n : ℕ) (place : Option ℕ) → place ≡ cond (nat_lt p n) (Some p) None → p ≡ n → place ≡ None
none_past p n place is past = let high : nat_lt p n ≡ false = grind (arith, nat_tests) in is ∙ ap (λ b. cond b (Some p) None) high

touched_as : (p : ℕ) (place : Option ℕ) (l : List ℕ) → place ≡ cond (nat_lt p (length l)) (Some p) None → touched_at place l ≡ touched p l
touched_as p place l is = ap (λ (o : Option ℕ). touched_at o l) is ∙ split (nat_lt p (length l))
  where
    split : (b : Bool) → touched_at (cond b (Some p) None) l ≡ cond b (set l p 0) (l ++ 0 ∷ [])
    split true = refl
    split false = refl

pub by_place : (was ends : Ends) (p : ℕ) (place : Option ℕ) → place ≡ cond (nat_lt p (length was.moments)) (Some p) None → AreBy (touched_at place) was ends → AreBy (touched p) was ends
by_place was ends p place is by = record {
  moments = by.moments ∙ touched_as p place was.moments is;
  unmixed = by.unmixed ∙ touched_as p place (evens was) (is ∙ ap (λ n. cond (nat_lt p n) (Some p) None) (sym (evens_length was.moments was.mixed.items)));
  sure = subst (λ (l : List ℕ). IsLower l (sure ends)) (touched_as p place (sure was) (is ∙ ap (λ n. cond (nat_lt p n) (Some p) None) (sym (zeros_length was.left was.moments)))) by.sure;
  left = by.left;
  flags = by.flags;
  lasts = by.lasts;
}

set_past : (l : List ℕ) (p : ℕ) → length l ≤ p → set l p 0 ≡ l
set_past [] p high = refl
set_past (x ∷ l) zero high = absurd (omega arith)
set_past (x ∷ l) (suc p) high = ap (λ (r : List ℕ). x ∷ r) (set_past l p (omega arith))

module _ (was ends : Ends) (p n : ℕ) (size : length was.moments ≡ n) (flags : length was.mixed.items ≡ length was.moments) (same : AreSameLasts was.lasts ends.lasts) (left : ends.left ≡ was.left) where
  -- the moment of a name that is there is 0
  pub by_zero : (place : ℕ) → Some place ≡ cond (nat_lt p n) (Some p) None → ends.moments ≡ set was.moments place 0 → ends.mixed.items ≡ was.mixed.items → AreBy (λ l. set l p 0) was ends
  by_zero place found moments mixed =
      let at = find_some p n place found in
      let now : ends.moments ≡ set was.moments p 0 = moments ∙ ap (λ i. set was.moments i 0) at.0 in
      record {
        moments = now;
        unmixed = (λ i. evens_of (now i) (mixed i)) ∙ evens_zero was.moments was.mixed.items p;
        sure = lower_same (set (sure was) p 0) (sure ends) ((λ i. zeros_to (left i) (now i)) ∙ zeros_set was.left was.moments p);
        left = omega (arith, left);
        flags = omega (arith, ap length mixed, flags, ap length now, length-set was.moments p 0);
        lasts = same;
      }

  pub by_none : None ≡ cond (nat_lt p n) (Some p) None → ends.moments ≡ was.moments → ends.mixed.items ≡ was.mixed.items → AreBy (λ l. set l p 0) was ends
  by_none found moments mixed =
      let high = find_none p n found in
      record {
        moments = moments ∙ sym (set_past was.moments p (omega (arith, high, size)));
        unmixed = (λ i. evens_of (moments i) (mixed i)) ∙ sym (set_past (evens was) p (omega (arith, high, size, evens_length was.moments was.mixed.items)));
        sure = lower_same (set (sure was) p 0) (sure ends) ((λ i. zeros_to (left i) (moments i)) ∙ sym (set_past (sure was) p (omega (arith, high, size, zeros_length was.left was.moments))));
        left = omega (arith, left);
        flags = omega (arith, ap length mixed, flags, ap length moments);
        lasts = same;
      }

module _ (was ends : Ends) (flags : length was.mixed.items ≡ length was.moments) (same : AreSameLasts was.lasts ends.lasts) (left : ends.left ≡ was.left) where
  pub by_touched : (p : ℕ) (place : Option ℕ) → place ≡ Some p → ends.moments ≡ set was.moments p 0 → ends.mixed.items ≡ was.mixed.items → AreBy (touched_at place) was ends
  by_touched p place is moments mixed = subst (λ (o : Option ℕ). AreBy (touched_at o) was ends) (sym is) (record {
    moments = moments;
    unmixed = (λ i. evens_of (moments i) (mixed i)) ∙ evens_zero was.moments was.mixed.items p;
    sure = lower_same (set (sure was) p 0) (sure ends) ((λ i. zeros_to (left i) (moments i)) ∙ zeros_set was.left was.moments p);
    left = omega (arith, left);
    flags = omega (arith, ap length mixed, flags, ap length moments, length-set was.moments p 0);
    lasts = same;
  })

  pub by_more : (place : Option ℕ) → place ≡ None → ends.moments ≡ was.moments ++ 0 ∷ [] → ends.mixed.items ≡ was.mixed.items ++ false ∷ [] → AreBy (touched_at place) was ends
  by_more place is moments mixed = subst (λ (o : Option ℕ). AreBy (touched_at o) was ends) (sym is) (record {
    moments = moments;
    unmixed = (λ i. evens_of (moments i) (mixed i)) ∙ evens_more was.moments was.mixed.items flags;
    sure = lower_same (sure was ++ 0 ∷ []) (sure ends) ((λ i. zeros_to (left i) (moments i)) ∙ zeros_more was.left was.moments);
    left = omega (arith, left);
    flags = omega (arith, ap length mixed, length-append was.mixed.items (false ∷ []), flags, ap length moments, length-append was.moments (0 ∷ []));
    lasts = same;
  })

  pub by_fit : (n k : ℕ) → n < length was.moments → k ≡ length was.moments - 1 → ends.moments ≡ take (length was.moments - 1) was.moments → ends.mixed.items ≡ take k was.mixed.items → AreBy (fitted n) was ends
  by_fit n k more fewer moments mixed =
      let is : nat_lt n (length was.moments) ≡ true = grind (arith, nat_tests) in
      let cut : ends.mixed.items ≡ take (length was.moments - 1) was.mixed.items = mixed ∙ ap (λ j. take j was.mixed.items) fewer in
      let even : evens ends ≡ take (length (evens was) - 1) (evens was) =
      (λ i. evens_of (moments i) (cut i)) ∙ (evens_take (length was.moments - 1) was.moments was.mixed.items flags ∙ ap (λ k. take (k - 1) (evens was)) (sym (evens_length was.moments was.mixed.items))) in
      let is' : nat_lt n (length (evens was)) ≡ true = ap (nat_lt n) (evens_length was.moments was.mixed.items) ∙ is in
      let low : sure ends ≡ take (length (sure was) - 1) (sure was) =
      (λ i. zeros_to (left i) (moments i)) ∙ (zeros_take was.left (length was.moments - 1) was.moments ∙ ap (λ k. take (k - 1) (sure was)) (sym (zeros_length was.left was.moments))) in
      let is'' : nat_lt n (length (sure was)) ≡ true = ap (nat_lt n) (zeros_length was.left was.moments) ∙ is in
      record {
        moments = moments ∙ sym (ap (λ b. cond b (take (length was.moments - 1) was.moments) was.moments) is);
        unmixed = even ∙ sym (ap (λ b. cond b (take (length (evens was) - 1) (evens was)) (evens was)) is');
        sure = lower_same (fitted n (sure was)) (sure ends) (low ∙ sym (ap (λ b. cond b (take (length (sure was) - 1) (sure was)) (sure was)) is''));
        left = omega (arith, left);
        flags = omega (arith, ap length cut, ap length moments, length-take-le (length was.moments - 1) was.mixed.items (omega (arith, flags)), length-take-le (length was.moments - 1) was.moments (omega arith));
        lasts = same;
      }

  pub by_fit_same : (n : ℕ) → length was.moments ≤ n → AreBy (fitted n) was was
  by_fit_same n few =
      let is : nat_lt n (length was.moments) ≡ false = grind (arith, nat_tests) in
      let is' : nat_lt n (length (evens was)) ≡ false = ap (nat_lt n) (evens_length was.moments was.mixed.items) ∙ is in
      let is'' : nat_lt n (length (sure was)) ≡ false = ap (nat_lt n) (zeros_length was.left was.moments) ∙ is in
      record {
        moments = sym (ap (λ b. cond b (take (length was.moments - 1) was.moments) was.moments) is);
        unmixed = sym (ap (λ b. cond b (take (length (evens was) - 1) (evens was)) (evens was)) is');
        sure = lower_same (fitted n (sure was)) (sure was) (sym (ap (λ b. cond b (take (length (sure was) - 1) (sure was)) (sure was)) is''));
        left = omega arith;
        flags = flags;
        lasts = (refl, refl);
      }

  pub by_all : ends.moments ≡ replicate (length was.moments) 0 → ends.mixed.items ≡ was.mixed.items → AreBy (λ l. replicate (length l) 0) was ends
  by_all moments mixed = record {
    moments = moments;
    unmixed = (λ i. evens_of (moments i) (mixed i)) ∙ (evens_none (length was.moments) was.mixed.items ∙ ap (λ k. replicate k 0) (sym (evens_length was.moments was.mixed.items)));
    sure = lower_same (replicate (length (sure was)) 0) (sure ends)
        ((λ i. zeros_to (left i) (moments i)) ∙ (zeros_none was.left (length was.moments) ∙ ap (λ k. replicate k 0) (sym (zeros_length was.left was.moments))));
    left = omega (arith, left);
    flags = omega (arith, ap length mixed, flags, ap length moments, length-replicate {A = ℕ} (length was.moments) 0);
    lasts = same;
  }

pub by_swap : (was ends : Ends) → length was.mixed.items ≡ length was.moments → AreSameLasts was.lasts ends.lasts → (place : ℕ) (d : Bool) → HasLowered place was.left ends.left → place < length was.moments → ends.moments ≡ swap_remove was.moments place 0 → ends.mixed.items ≡ swap_remove was.mixed.items place d → length ends.mixed.items + 1 ≡ length was.mixed.items
    → AreBy (λ l. swap_remove l place 0) was ends
by_swap was ends flags same place d lowered low moments mixed fewer = record {
  moments = moments;
  unmixed = (λ i. evens_of (moments i) (mixed i)) ∙ evens_swap was.moments was.mixed.items place d flags low;
  sure = subst (λ (l : List ℕ). IsLower (swap_remove (sure was) place 0) (zeros_to ends.left l)) (sym moments) (lower_swap was.moments place was.left ends.left low lowered);
  left = lowered_most place was.left ends.left lowered;
  flags =
      let last = length was.moments - 1 in
      let left : length (swap_remove was.moments place 0) ≡ last = length-take-le last (set was.moments place (get_or was.moments last 0)) (omega (arith, length-set was.moments place (get_or was.moments last 0))) in
      omega (arith, ap length moments, left, fewer, flags, low);
  lasts = same;
}

pub by_evened : (was ends : Ends) → length was.mixed.items ≡ length was.moments → AreSameLasts was.lasts ends.lasts → (place : ℕ) → length was.moments ≤ place → ends.moments ≡ evens_to place was.moments was.mixed.items → ends.mixed.items ≡ was.mixed.items → AreEvened was ends
by_evened was ends flags same place high moments mixed =
    let all : ends.moments ≡ evens was = moments ∙ to_all place was.moments was.mixed.items high in
    record {
      size = ap length all ∙ evens_length was.moments was.mixed.items;
      unmixed = (λ i. evens_of (all i) (mixed i)) ∙ evens_twice was.moments was.mixed.items;
      sure = subst (λ (l : List ℕ). IsLower (evens was) (zeros_to ends.left l)) (sym all) (zeros_lower ends.left (evens was));
      flags = omega (arith, ap length mixed, flags, ap length all, evens_length was.moments was.mixed.items);
      lasts = same;
    }

-- each name is in doubt
pub by_doubted : (was ends : Ends) → length was.mixed.items ≡ length was.moments → ends.moments ≡ was.moments → ends.mixed.items ≡ was.mixed.items → ends.left ≡ length was.moments → AreSameLasts was.lasts ends.lasts → AreEvened was ends
by_doubted was ends flags moments mixed left same = record {
  size = ap length moments;
  unmixed = (λ i. evens_of (moments i) (mixed i));
  sure = subst (λ n. IsLower (evens was) (zeros_to n ends.moments)) (sym left) (subst (λ (l : List ℕ). IsLower (evens was) (zeros_to (length was.moments) l)) (sym moments) (record {
    size = zeros_length (length was.moments) was.moments ∙ sym (evens_length was.moments was.mixed.items);
    each = λ i. inl (none i);
  }));
  flags = omega (arith, ap length mixed, flags, ap length moments);
  lasts = same;
}
  where
    none : (i : ℕ) → get_or (zeros_to (length was.moments) was.moments) i 0 ≡ 0
    none i = elim (lt_or i (length was.moments)) [
      | inl low ↦ zeros_low (length was.moments) was.moments i low
      | inr past ↦ zeros_high (length was.moments) was.moments i past ∙ get_or_past was.moments i 0 past
    ]

-- the moment at a place is 0, or as it was
pub mixed_length : (place : ℕ) (old : List ℕ) (mixed : List Bool) (new : List ℕ) → EndsMixed place old mixed new → length new ≡ length old
mixed_length place old mixed new (inl ended) = ap length ended ∙ length-set old place 0
mixed_length place old mixed new (inr same) = ap length same.0

pub mixed_even : (place : ℕ) (was ends : Ends) → EndsMixed place was.moments was.mixed.items ends.moments → ends.mixed.items ≡ was.mixed.items → IsLower (evens was) (evens ends)
mixed_even place was ends (inl ended) flags =
    let zero : evens ends ≡ set (evens was) place 0 = (λ i. evens_of (ended i) (flags i)) ∙ evens_zero was.moments was.mixed.items place in
    subst (λ (l : List ℕ). IsLower (evens was) l) (sym zero) (lower_zero (evens was) place)
mixed_even place was ends (inr same) flags = lower_same (evens was) (evens ends) (λ i. evens_of (same.0 i) (flags i))

pub mixed_past : (place : ℕ) (old : List ℕ) (mixed : List Bool) → length mixed ≡ length old → length old ≤ place → EndsMixed place old mixed old
mixed_past place old mixed flags past = inr (refl, get_or_past (evens_of old mixed) place 0 (omega (arith, past, evens_length old mixed)) ∙ sym (get_or_past old place 0 past))

pub mixed_read : (place : ℕ) (old : List ℕ) (mixed : List Bool) (d : Bool) → length mixed ≡ length old → place < length old → get_or mixed place d ≡ false → EndsMixed place old mixed old
mixed_read place old mixed d flags low is = inr (refl, evens_read old mixed place d flags low ∙ ap (λ b. cond b 0 (get_or old place 0)) is)
