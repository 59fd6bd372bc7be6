-- Laws of lists that std lacks: lemmas, which proofs here and in the crates above cite. No contract needs them.
use Rattle.std.proofs.Common.{◌≡◌, ℕ, zero, suc, ◌<◌, Some, None, List, [], ◌∷◌, ◌++◌, length, get_or, slice_get, take, drop, reverse, refl, ap, arith, length-append}
use Rattle.std.specs.List.{AllByRecursion}
use Rattle.std.proofs.lemmas.List.{reverse-append}

-- ---- what holds of each element

-- a fact of each element of two lists holds of each element of both joined
pub all-append : {X : Type 0} (P : X → Type 0) (xs ys : List X) → AllByRecursion P xs → AllByRecursion P ys → AllByRecursion P (xs ++ ys)
all-append P [] ys h k = k
all-append P (x ∷ xs) ys h k = (h.0, all-append P xs ys h.1 k)

-- and of a list with one more element
pub all_push : {X : Type 0} (P : X → Type 0) (xs : List X) (y : X) → AllByRecursion P xs → P y → AllByRecursion P (xs ++ y ∷ [])
all_push P xs y h one = all-append P xs (y ∷ []) h (one, tt)

-- a fact of each element of a joined list holds of each element of its two parts
pub all_split : {X : Type 0} (P : X → Type 0) (xs ys : List X) → AllByRecursion P (xs ++ ys) → AllByRecursion P xs × AllByRecursion P ys
all_split P [] ys h = (tt, h)
all_split P (x ∷ xs) ys h = let rest = all_split P xs ys h.1 in ((h.0, rest.0), rest.1)

-- and of each element of a first part
pub all-take : {X : Type 0} (P : X → Type 0) (n : ℕ) (xs : List X) → AllByRecursion P xs → AllByRecursion P (take n xs)
all-take P zero xs h = tt
all-take P (suc n) [] h = tt
all-take P (suc n) (x ∷ xs) h = (h.0, all-take P n xs h.1)

-- and of each element of a last part
pub all-drop : {X : Type 0} (P : X → Type 0) (n : ℕ) (xs : List X) → AllByRecursion P xs → AllByRecursion P (drop n xs)
all-drop P zero xs h = h
all-drop P (suc n) [] h = tt
all-drop P (suc n) (x ∷ xs) h = all-drop P n xs h.1

-- and of each element of the list in reverse order
pub all-reverse : {X : Type 0} (P : X → Type 0) (xs : List X) → AllByRecursion P xs → AllByRecursion P (reverse xs)
all-reverse P [] h = tt
all-reverse P (x ∷ xs) h =
    let e : reverse (x ∷ xs) ≡ reverse xs ++ x ∷ [] = reverse-append (x ∷ []) xs in
    rw e (all_push P (reverse xs) x (all-reverse P xs h.1) h.0)

-- a weaker fact holds of each element too
pub all_weaker : {X : Type 0} (P Q : X → Type 0) → ((x : X) → P x → Q x) → (xs : List X) → AllByRecursion P xs → AllByRecursion Q xs
all_weaker P Q weaker [] h = tt
all_weaker P Q weaker (x ∷ xs) h = (weaker x h.0, all_weaker P Q weaker xs h.1)

-- ---- the places of a list

-- each place before the end has an element
pub never_past : {X : Type 0} (xs : List X) (n : ℕ) → n < length xs → slice_get xs n ≡ None → ⊥
never_past [] n within e = absurd (omega arith)
never_past (x ∷ xs) zero within e = let same : Some x ≡ None = e in cc
never_past (x ∷ xs) (suc n) within e = never_past xs n (omega arith) e

-- ---- lists of octets

-- if each place of a list has an octet, each element is one
pub octets_all : (octets : List ℕ) → ((i : ℕ) → get_or octets i 0 < 256) → AllByRecursion (λ b. b < 256) octets
octets_all [] fits = tt
octets_all (b ∷ octets) fits = (fits 0, octets_all octets (λ i. fits (suc i)))

-- the same, if only places inside the list are known to have one
pub octets_within : (octets : List ℕ) → ((i : ℕ) → i < length octets → get_or octets i 0 < 256) → AllByRecursion (λ b. b < 256) octets
octets_within [] fits = tt
octets_within (b ∷ octets) fits = (fits 0 (omega arith), octets_within octets (λ i less. fits (suc i) (omega arith)))

-- if each element is an octet, so is what any place has
pub octet_of : (octets : List ℕ) → AllByRecursion (λ b. b < 256) octets → (i : ℕ) → get_or octets i 0 < 256
octet_of [] h i = omega arith
octet_of (b ∷ octets) h zero = h.0
octet_of (b ∷ octets) h (suc i) = octet_of octets h.1 i

-- ---- the last element

-- lists that are equal with one more element each are equal without it
pub same_ends : (xs ys : List ℕ) (a b : ℕ) → xs ++ a ∷ [] ≡ ys ++ b ∷ [] → (xs ≡ ys) × (a ≡ b)
same_ends [] [] a b e = (refl, cc)
same_ends [] (y ∷ ys) a b e = absurd (omega (arith, ap length e, length-append ys (b ∷ [])))
same_ends (x ∷ xs) [] a b e = absurd (omega (arith, ap length e, length-append xs (a ∷ [])))
same_ends (x ∷ xs) (y ∷ ys) a b e =
    let head : x ≡ y = cc in
    let tail : xs ++ a ∷ [] ≡ ys ++ b ∷ [] = cc in
    let more = same_ends xs ys a b tail in
    (let same : xs ≡ ys = more.0 in cc, more.1)
