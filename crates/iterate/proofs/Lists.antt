-- Lists: what stands before a place, and what stands once.
use Rattle.std.proofs.Common.{suc, ◌≡◌, ℕ, ◌+◌, ◌-◌, ◌<◌, ◌≤◌, List, [], ◌∷◌, ◌++◌, length, take, drop, sym, ap, ◌∙◌, subst, refl, inl, inr, arith}
use Rattle.std.specs.List.{AllByRecursion, Contains}
use Rattle.std.proofs.lemmas.List.{length-drop, length-take, take-append-drop, take-append-le}
use Rattle.std.proofs.lemmas.List.Elements.{All-from_recursion, All-contains, Contains-append_left, Contains-append_right, Contains-append_cases, Contains-push_cases}
use Rattle.std.proofs.Math.Seq.{drop-append-add, take-append-add}
use Rattle.dns_text.specs.declared.addr.Addr.{Addr}
use Rattle.iterate.specs.Searching.{AreDistinct}

pub all_of : {X : Type 0} (P : X → Type 0) (xs : List X) → ((x : X) → Contains xs x → P x) → AllByRecursion P xs
all_of P [] h = tt
all_of P (x ∷ xs) h = (h x (0, omega arith, refl), all_of P xs (λ y is. h y (Contains-append_right (x ∷ []) xs y is)))

pub of_all : {X : Type 0} (P : X → Type 0) (xs : List X) (x : X) → AllByRecursion P xs → Contains xs x → P x
of_all P xs x all is = All-contains P xs x (All-from_recursion P xs all) is

-- what is before a place
pub take_first : {X : Type 0} (n m : ℕ) (xs ys : List X) → take m xs ≡ ys → n ≤ m → n ≤ length ys → take n xs ≡ take n ys
take_first n m xs ys first few short =
    ap (λ (zs : List _). take n zs) (sym (take-append-drop m xs)) ∙ ap (λ (zs : List _). take n (zs ++ drop m xs)) first ∙ take-append-le n ys (drop m xs) short

pub contains_first : {X : Type 0} (m : ℕ) (xs ys : List X) (x : X) → take m xs ≡ ys → Contains ys x → Contains xs x
contains_first m xs ys x first is =
    subst (λ (zs : List _). Contains zs x) (ap (λ (zs : List _). zs ++ drop m xs) (sym first) ∙ take-append-drop m xs) (Contains-append_left ys (drop m xs) x is)

-- the next one is within the list
pub next_within : {X : Type 0} (n : ℕ) (xs : List X) (x : X) (rest : List X) → drop n xs ≡ x ∷ rest → n < length xs
next_within n xs x rest next =
    let e : length xs - n ≡ suc (length rest) = sym (length-drop n xs) ∙ ap (λ (zs : List _). length zs) next in
    omega (arith, e)

-- one more is taken
pub take_next : {X : Type 0} (n : ℕ) (xs : List X) (x : X) (rest : List X) → drop n xs ≡ x ∷ rest → take (n + 1) xs ≡ take n xs ++ x ∷ []
take_next n xs x rest next =
    let within = next_within n xs x rest next in
    let long : length (take n xs) ≡ n = length-take n xs ∙ omega (arith, within) in
    let split : xs ≡ take n xs ++ x ∷ rest = sym (take-append-drop n xs) ∙ ap (λ (zs : List _). take n xs ++ zs) next in
    ap (λ (zs : List _). take (n + 1) zs) split ∙ ap (λ (k : ℕ). take (k + 1) (take n xs ++ x ∷ rest)) (sym long) ∙ take-append-add (take n xs) (x ∷ rest) 1

-- what comes after it
pub drop_next : {X : Type 0} (n : ℕ) (xs : List X) (x : X) (rest : List X) → drop n xs ≡ x ∷ rest → drop (n + 1) xs ≡ rest
drop_next n xs x rest next =
    let within = next_within n xs x rest next in
    let long : length (take n xs) ≡ n = length-take n xs ∙ omega (arith, within) in
    let split : xs ≡ take n xs ++ x ∷ rest = sym (take-append-drop n xs) ∙ ap (λ (zs : List _). take n xs ++ zs) next in
    ap (λ (zs : List _). drop (n + 1) zs) split ∙ ap (λ (k : ℕ). drop (k + 1) (take n xs ++ x ∷ rest)) (sym long) ∙ drop-append-add (take n xs) (x ∷ rest) 1

-- the first of some
pub first_of : {X : Type 0} (xs : List X) (x : X) → Contains xs x → (first : X) × (rest : List X) × (xs ≡ first ∷ rest)
first_of [] x is = absurd (omega (arith, is.1))
first_of (y ∷ ys) x is = (y, ys, refl)

pub next_among : {X : Type 0} (n : ℕ) (xs : List X) (x : X) (rest : List X) → drop n xs ≡ x ∷ rest → Contains xs x
next_among n xs x rest next =
    subst (λ (zs : List _). Contains zs x) (take-append-drop n xs) (Contains-append_right (take n xs) (drop n xs) x (subst (λ (zs : List _). Contains zs x) (sym next) (0, omega arith, refl)))

pub none_taken : {X : Type 0} (n : ℕ) (xs : List X) (x : X) → n ≡ 0 → Contains (take n xs) x → ⊥
none_taken n xs x none is =
    let first : Contains (take 0 xs) x = subst (λ (k : ℕ). Contains (take k xs) x) none is in
    absurd (omega (arith, first.1))

pub none_within : {X : Type 0} (xs : List X) (x : X) → xs ≡ [] → Contains xs x → ⊥
none_within xs x none is =
    let first : Contains [] x = subst (λ (zs : List _). Contains zs x) none is in
    absurd (omega (arith, first.1))

-- ---- each address once

pub distinct_push : (xs : List Addr) (x : Addr) → AreDistinct xs → (Contains xs x → ⊥) → AreDistinct (xs ++ x ∷ [])
distinct_push [] x d lacks = (λ is. none_within [] x refl is, tt)
distinct_push (y ∷ ys) x d lacks = (
  λ is. elim (Contains-push_cases ys x y is) [
    | inl earlier ↦ d.0 earlier
    | inr same ↦ lacks (subst (λ (z : Addr). Contains (y ∷ ys) z) (sym same) (0, omega arith, refl))
  ],
  distinct_push ys x d.1 (λ is. lacks (Contains-append_right (y ∷ []) ys x is)),
)

distinct_front : (front rest : List Addr) (x : Addr) → AreDistinct (front ++ x ∷ rest) → Contains front x → ⊥
distinct_front [] rest x d is = none_within [] x refl is
distinct_front (y ∷ ys) rest x d is = elim (Contains-append_cases (y ∷ []) ys x is) [
  | inl first ↦ elim (Contains-push_cases [] y x first) [
    | inl none ↦ none_within [] x refl none
    | inr same ↦ d.0 (subst (λ (z : Addr). Contains (ys ++ x ∷ rest) z) (sym same) (Contains-append_right ys (x ∷ rest) x (0, omega arith, refl)))
  ]
  | inr later ↦ distinct_front ys rest x d.1 later
]

-- The next one is none of those before it.
pub next_new : (i : ℕ) (xs : List Addr) (x : Addr) (rest : List Addr) → AreDistinct xs → drop i xs ≡ x ∷ rest → Contains (take i xs) x → ⊥
next_new i xs x rest d next is =
    let split : xs ≡ take i xs ++ x ∷ rest = sym (take-append-drop i xs) ∙ ap (λ (ys : List Addr). take i xs ++ ys) next in
    distinct_front (take i xs) rest x (subst (λ (ys : List Addr). AreDistinct ys) split d) is
