-- Receipts have one order by number, equal numbers as handed in. So a book is closed in one way.
use Rattle.std.proofs.Common.{◌≡◌, ℕ, zero, suc, ◌+◌, ◌<◌, ◌≤◌, Bool, true, false, ◌&&◌, not, Option, Some, None, List, [], ◌∷◌, ◌++◌, length, get_or, slice_get, refl, sym, ◌∙◌, ap, subst, arith, ◌⊎◌, inl, inr, filter}
use Rattle.std.specs.Prelude.{◌≢◌}
use Rattle.std.specs.List.Sorted.{IsNonDecreasingBy, ties}
use Rattle.std.specs.Ordering.{nat_cmp, is_lt}
use Rattle.std.proofs.lemmas.Bool.{and_parts, false≢true}
use Rattle.std.proofs.lemmas.Map.Keys.{ge_from_not_lt}
use Rattle.std.specs.Cmp.{nat_cmp_is}
use Rattle.std.specs.declared.cmp.Ordering.TheVariants.{Equal}
use Rattle.shared_book.specs.declared.receipt.Receipt.{Receipt}
use Rattle.shared_book.specs.declared.fault.CloseFault.{CloseFault}
use Rattle.shared_book.specs.declared.fault.CloseFault.TheVariants.{Missing, Mismatch, NoMemory}
use Rattle.shared_book.specs.Pass.{PassState}
use Rattle.shared_book.specs.Kept.{KeptState}
use Rattle.shared_book.specs.Closing.{IsInOrder, IsFirstOther, IsComplete, IsMissing, ClosesAs, AgreeButMemory, numbered_from}

abbrev below : Receipt → Receipt → Bool
below x y = is_lt (nat_cmp x.number y.number)

abbrev tie : Receipt → Receipt → Bool
tie = ties below

not_true : (b : Bool) → not b ≡ true → b ≡ false
not_true false h = refl
not_true true h = absurd (false≢true h)

tie_equal : (x y : Receipt) → tie x y ≡ true → x.number ≡ y.number
tie_equal x y h =
    let p = and_parts (not (below x y)) (not (below y x)) h in
    let a : y.number ≤ x.number = ge_from_not_lt x.number y.number (not_true _ p.0) in
    let b : x.number ≤ y.number = ge_from_not_lt y.number x.number (not_true _ p.1) in
    omega arith

not_below : (a b : ℕ) → a ≡ b → is_lt (nat_cmp a b) ≡ false
not_below a b e = ap is_lt (sym (nat_cmp_is a b Equal e))

equal_tie : (x y : Receipt) → x.number ≡ y.number → tie x y ≡ true
equal_tie x y e =
    let a : below x y ≡ false = not_below x.number y.number e in
    let b : below y x ≡ false = not_below y.number x.number (sym e) in
    λ i. not (a i) && not (b i)

order : (a b : ℕ) → (a < b) ⊎ ((a ≡ b) ⊎ (b < a))
order zero zero = inr (inl refl)
order zero (suc b) = inl (omega arith)
order (suc a) zero = inr (inr (omega arith))
order (suc a) (suc b) = elim (order a b) [
  | inl h ↦ inl (omega (arith, h))
  | inr h ↦ elim h [ inl e ↦ inr (inl (ap suc e)) | inr l ↦ inr (inr (omega (arith, l))) ]
]

-- ---- a filter at the head of a list

filter_take : (p : Receipt → Bool) (y : Receipt) (ys : List Receipt) → p y ≡ true → filter p (y ∷ ys) ≡ y ∷ filter p ys
filter_take p y ys h = rw h refl

filter_skip : (p : Receipt → Bool) (y : Receipt) (ys : List Receipt) → p y ≡ false → filter p (y ∷ ys) ≡ filter p ys
filter_skip p y ys h = rw h refl

-- ---- lists that rise

abbrev AtLeast : ℕ → List Receipt → Type 0
AtLeast m [] = Unit {0}
AtLeast m (y ∷ ys) = (m ≤ y.number) × AtLeast m ys

abbrev Rising : List Receipt → Type 0
Rising [] = Unit {0}
Rising (x ∷ xs) = AtLeast x.number xs × Rising xs

at_least : (m : ℕ) (xs : List Receipt) → ((i : ℕ) (d : Receipt) → i < length xs → m ≤ (get_or xs i d).number) → AtLeast m xs
at_least m [] h = tt
at_least m (y ∷ ys) h = (h zero y (omega arith), at_least m ys (λ i d lt. h (suc i) d (omega (arith, lt))))

rising : (xs : List Receipt) → IsNonDecreasingBy (λ r. r.number) xs → Rising xs
rising [] up = tt
rising (x ∷ xs) up = (at_least x.number xs (λ i d lt. up zero (suc i) d (omega arith) (omega (arith, lt))), rising xs (λ i j d le lt. up (suc i) (suc j) d (omega (arith, le)) (omega (arith, lt))))

none_tie_head : (x y : Receipt) (m : ℕ) (ys : List Receipt) → m ≤ y.number → x.number < m → filter (tie x) ys ≡ [] → (b : Bool) → tie x y ≡ b → filter (tie x) (y ∷ ys) ≡ []
none_tie_head x y m ys a lt later true is = let e : x.number ≡ y.number = tie_equal x y is in absurd (omega arith)
none_tie_head x y m ys a lt later false is = filter_skip (tie x) y ys is ∙ later

none_tie : (x : Receipt) (m : ℕ) (ys : List Receipt) → AtLeast m ys → x.number < m → filter (tie x) ys ≡ []
none_tie x m [] a lt = refl
none_tie x m (y ∷ ys) a lt = none_tie_head x y m ys a.0 lt (none_tie x m ys a.1 lt) (tie x y) refl

no_more : (y : Receipt) (ys : List Receipt) → [] ≡ filter (tie y) (y ∷ ys) → ⊥
no_more y ys e = let f : [] ≡ y ∷ filter (tie y) ys = e ∙ filter_take (tie y) y ys (equal_tie y y refl) in cc

lower_first : (x : Receipt) (xs : List Receipt) (y : Receipt) (ys : List Receipt) → AtLeast y.number ys → x.number < y.number → filter (tie x) (x ∷ xs) ≡ filter (tie x) (y ∷ ys) → ⊥
lower_first x xs y ys a lt e = no_more x xs (sym (none_tie x y.number (y ∷ ys) (omega arith, a) lt) ∙ sym e)

heads : (x : Receipt) (xs : List Receipt) (y : Receipt) (ys : List Receipt) → x.number ≡ y.number → filter (tie x) (x ∷ xs) ≡ filter (tie x) (y ∷ ys) → x ≡ y
heads x xs y ys same e =
    let f : x ∷ filter (tie x) xs ≡ y ∷ filter (tie x) ys = sym (filter_take (tie x) x xs (equal_tie x x refl)) ∙ e ∙ filter_take (tie x) y ys (equal_tie x y same) in
    cc

tails : (p : Receipt → Bool) (x : Receipt) (xs ys : List Receipt) (b : Bool) → p x ≡ b → filter p (x ∷ xs) ≡ filter p (x ∷ ys) → filter p xs ≡ filter p ys
tails p x xs ys true is e = let f : x ∷ filter p xs ≡ x ∷ filter p ys = sym (filter_take p x xs is) ∙ e ∙ filter_take p x ys is in cc
tails p x xs ys false is e = sym (filter_skip p x xs is) ∙ e ∙ filter_skip p x ys is

unique : (xs ys : List Receipt) → Rising xs → Rising ys → ((z : Receipt) → filter (tie z) xs ≡ filter (tie z) ys) → xs ≡ ys
unique [] [] rx ry same = refl
unique [] (y ∷ ys) rx ry same = absurd (no_more y ys (same y))
unique (x ∷ xs) [] rx ry same = absurd (no_more x xs (sym (same x)))
unique (x ∷ xs) (y ∷ ys) rx ry same = elim (order x.number y.number) [
  | inl lt ↦ absurd (lower_first x xs y ys ry.0 lt (same x))
  | inr h ↦ elim h [
    | inl e ↦
        let head : x ≡ y = heads x xs y ys e (same x) in
        let tail : xs ≡ ys
        = unique xs ys rx.1 ry.1 (λ z. tails (tie z) x xs ys (tie z x) refl (same z ∙ ap (λ (w : Receipt). filter (tie z) (w ∷ ys)) (sym head))) in
        cc
    | inr lt ↦ absurd (lower_first y ys x xs rx.0 lt (sym (same y)))
  ]
]

pub in_order_unique : (given xs ys : List Receipt) → IsInOrder given xs → IsInOrder given ys → xs ≡ ys
in_order_unique given xs ys a b = unique xs ys (rising xs a.rising) (rising ys b.rising) (λ z. a.stable z ∙ sym (b.stable z))

-- ---- the first other place

rest_is : (before : List Receipt) (l : List Receipt) (rest : List Receipt) → before ++ l ≡ before ++ rest → l ≡ rest
rest_is [] l rest e = e
rest_is (x ∷ before) l rest e = rest_is before l rest (let f : x ∷ (before ++ l) ≡ x ∷ (before ++ rest) = e in cc)

no_other : (first n : ℕ) (xs : List Receipt) → IsFirstOther first n xs xs → ⊥
no_other first n xs o = o.other (ap (λ (l : List Receipt). slice_get l 0) (sym (rest_is o.before (o.receipt ∷ o.later) o.rest (sym o.receipts_are ∙ o.entries_are))))

same_place : (b b' : List Receipt) (r r' : Receipt) (l l' e e' : List Receipt) → b ++ r ∷ l ≡ b' ++ r' ∷ l' → b ++ e ≡ b' ++ e' → (slice_get e 0 ≢ Some r) → (slice_get e' 0 ≢ Some r') → length b ≡ length b'
same_place [] [] r r' l l' e e' p q other other' = refl
same_place [] (x ∷ b') r r' l l' e e' p q other other' =
    let f : r ∷ l ≡ x ∷ (b' ++ r' ∷ l') = p in
    let h : x ≡ r = cc in
    absurd (other (ap (λ (k : List Receipt). slice_get k 0) q ∙ ap (λ (y : Receipt). Some y) h))
same_place (x ∷ b) [] r r' l l' e e' p q other other' =
    let f : x ∷ (b ++ r ∷ l) ≡ r' ∷ l' = p in
    let h : x ≡ r' = cc in
    absurd (other' (ap (λ (k : List Receipt). slice_get k 0) (sym q) ∙ ap (λ (y : Receipt). Some y) h))
same_place (x ∷ b) (y ∷ b') r r' l l' e e' p q other other' =
    let f : x ∷ (b ++ r ∷ l) ≡ y ∷ (b' ++ r' ∷ l') = p in
    let g : x ∷ (b ++ e) ≡ y ∷ (b' ++ e') = q in
    let p' : b ++ r ∷ l ≡ b' ++ r' ∷ l' = cc in
    let q' : b ++ e ≡ b' ++ e' = cc in
    ap suc (same_place b b' r r' l l' e e' p' q' other other')

one_place : (first m n : ℕ) (xs es : List Receipt) → IsFirstOther first m xs es → IsFirstOther first n xs es → m ≡ n
one_place first m n xs es o p =
    o.number_is ∙ ap (λ k. first + k) (same_place o.before p.before o.receipt p.receipt o.later p.later o.rest p.rest (sym o.receipts_are ∙ p.receipts_are) (sym o.entries_are ∙ p.entries_are) o.other p.other) ∙ sym p.number_is

-- ---- one verdict

-- what is missing is not complete
not_complete : {B : Type 0} (kept : KeptState B) (passes : List PassState) (receipts : List Receipt) (count : ℕ) → IsComplete kept passes receipts → 0 < count → IsMissing kept passes receipts count → ⊥
not_complete kept ps rs count all some (inl calls) = omega (arith, all.gathered, calls, some)
not_complete kept ps rs count all some (inr more) = omega (arith, all.handed_in, more.1, some)

-- so much is missing
one_missing : {B : Type 0} (kept : KeptState B) (passes : List PassState) (receipts : List Receipt) (c d : ℕ) → 0 < c → 0 < d → IsMissing kept passes receipts c → IsMissing kept passes receipts d → c ≡ d
one_missing kept ps rs c d some more (inl p) (inl q) = omega (arith, p, q)
one_missing kept ps rs c d some more (inl p) (inr q) = absurd (omega (arith, p, q.0, some))
one_missing kept ps rs c d some more (inr p) (inl q) = absurd (omega (arith, q, p.0, more))
one_missing kept ps rs c d some more (inr p) (inr q) = omega (arith, p.1, q.1)

-- where all is handed in, memory may be wanted in place of what the order tells alone
memory_of_order : {B : Type 0} (kept : KeptState B) (passes : List PassState) (receipts : List Receipt) (b : Option CloseFault)
    → IsComplete kept passes receipts → ClosesAs kept passes receipts b → AgreeButMemory (Some NoMemory) b
memory_of_order kept ps rs None all q = inr (inl (refl, tt))
memory_of_order kept ps rs (Some (Mismatch n)) all q = inr (inl (refl, tt))
memory_of_order kept ps rs (Some NoMemory) all q = inl refl
memory_of_order kept ps rs (Some (Missing c)) all q = absurd (not_complete kept ps rs c all q.0 q.1)

pub one_verdict : {B : Type 0} (kept : KeptState B) (passes : List PassState) (receipts : List Receipt) (a b : Option CloseFault)
    → ClosesAs kept passes receipts a → ClosesAs kept passes receipts b → AgreeButMemory a b
one_verdict kept ps rs (Some NoMemory) b p q = memory_of_order kept ps rs b p.0 q
one_verdict kept ps rs None (Some NoMemory) p q = inr (inr (refl, tt))
one_verdict kept ps rs (Some (Mismatch m)) (Some NoMemory) p q = inr (inr (refl, tt))
one_verdict kept ps rs (Some (Missing c)) (Some NoMemory) p q = absurd (not_complete kept ps rs c q.0 p.0 p.1)
one_verdict kept ps rs None None p q = inl refl
one_verdict kept ps rs None (Some (Missing c)) p q = absurd (not_complete kept ps rs c p.0 q.0 q.1)
one_verdict kept ps rs None (Some (Mismatch n)) p q =
    let o = subst (λ (xs : List Receipt). IsFirstOther kept.first n xs kept.window) (in_order_unique (numbered_from kept.first rs) q.1.0 kept.window q.1.1 p.1) q.1.2 in
    absurd (no_other kept.first n kept.window o)
one_verdict kept ps rs (Some (Missing c)) None p q = absurd (not_complete kept ps rs c q.0 p.0 p.1)
one_verdict kept ps rs (Some (Missing c)) (Some (Missing d)) p q = let e : c ≡ d = one_missing kept ps rs c d p.0 q.0 p.1 q.1 in inl (ap (λ n. Some (Missing n)) e)
one_verdict kept ps rs (Some (Missing c)) (Some (Mismatch n)) p q = absurd (not_complete kept ps rs c q.0 p.0 p.1)
one_verdict kept ps rs (Some (Mismatch n)) None p q =
    let o = subst (λ (xs : List Receipt). IsFirstOther kept.first n xs kept.window) (in_order_unique (numbered_from kept.first rs) p.1.0 kept.window p.1.1 q.1) p.1.2 in
    absurd (no_other kept.first n kept.window o)
one_verdict kept ps rs (Some (Mismatch n)) (Some (Missing c)) p q = absurd (not_complete kept ps rs c p.0 q.0 q.1)
one_verdict kept ps rs (Some (Mismatch m)) (Some (Mismatch n)) p q =
    let o = subst (λ (xs : List Receipt). IsFirstOther kept.first m xs kept.window) (in_order_unique (numbered_from kept.first rs) p.1.0 q.1.0 p.1.1 q.1.1) p.1.2 in
    inl (ap (λ k. Some (Mismatch k)) (one_place kept.first m n q.1.0 kept.window o q.1.2))
