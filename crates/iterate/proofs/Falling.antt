-- How the measure of a task falls.
use Rattle.std.proofs.Common.{zero, suc, ◌≡◌, ℕ, ◌+◌, ◌-◌, ◌*◌, ◌^◌, ◌<◌, ◌≤◌, List, [], ◌∷◌, length, ap, subst, refl, arith}
use Rattle.std.specs.List.{AllByRecursion}
use Rattle.std.proofs.Math.Nat.{mul-le-mul_right, pow-succ', pow-zero}
use Rattle.iterate.specs.declared.path.Path.{Path}
use Rattle.iterate.specs.Measure.{top, weight, Falls, digits_of_path}

-- ---- orders of numbers, whatever these are

pub few_is : {a b : ℕ} → a < b → a ≤ b
few_is h = omega (arith, h)

pub less_than : {a b c : ℕ} → a < b → b ≤ c → a < c
less_than less most = omega (arith, less, most)

pub less_twice : {a b c : ℕ} → a < b → b < c → a ≤ c
less_twice less more = omega (arith, less, more)

-- ---- digits

-- digits of a number whose base is above the greatest
abbrev pub Digits : List ℕ → Type 0
Digits ds = AllByRecursion (λ d. d ≤ top) ds

times : (x y p : ℕ) → x < y → x * p + p ≤ y * p
times x y p h = let e : (x + 1) * p ≤ y * p = mul-le-mul_right p (omega arith) in omega (arith, e)

weight_below : (ds : List ℕ) → Digits ds → weight ds < (top + 1) ^ length ds
weight_below [] all = rw pow-zero (omega arith)
weight_below (d ∷ ds) all =
    let less = weight_below ds all.1 in
    let most = times d (top + 1) ((top + 1) ^ length ds) (omega (arith, all.0)) in
    let power : (top + 1) ^ length (d ∷ ds) ≡ (top + 1) * (top + 1) ^ length ds = pow-succ' (top + 1) (length ds) in
    omega (arith, less, most, power)

falls_length : {xs ys : List ℕ} → Falls xs ys → length xs ≡ length ys
falls_length (Falls.here h e) = ap (λ (n : ℕ). suc n) e
falls_length (Falls.there f) = ap (λ (n : ℕ). suc n) (falls_length f)

pub weight_falls : {xs ys : List ℕ} → Falls xs ys → Digits xs → weight xs < weight ys
weight_falls (Falls.here {x} {y} {xs} {ys} h e) all =
    let less = weight_below xs all.1 in
    let same : (top + 1) ^ length xs ≡ (top + 1) ^ length ys = ap (λ (n : ℕ). (top + 1) ^ n) e in
    let most = times x y ((top + 1) ^ length ys) h in
    rw same (omega (arith, subst (λ (n : ℕ). weight xs < n) same less, most))
weight_falls (Falls.there {x} {xs} {ys} f) all =
    let less = weight_falls f all.1 in
    let same : (top + 1) ^ length xs ≡ (top + 1) ^ length ys = ap (λ (n : ℕ). (top + 1) ^ n) (falls_length f) in
    rw same (omega (arith, less))

-- ---- the digit that falls

pub path_digits : (path : Path) (sending coming hunts looks : ℕ) → coming ≤ top → hunts ≤ top → looks ≤ top → Digits (digits_of_path path sending coming hunts looks)
path_digits path sending coming hunts looks comes few some = (omega arith, (omega arith, (omega arith, (comes, (few, (some, tt))))))

-- a digit stays, and one after it falls
stays : {x y : ℕ} {xs ys : List ℕ} → x ≡ y → Falls xs ys → Falls (x ∷ xs) (y ∷ ys)
stays {x} {y} {xs} {ys} same f = subst (λ (n : ℕ). Falls (x ∷ xs) (n ∷ ys)) same (Falls.there f)

begun_same : (p q : Path) → p.begun ≡ q.begun → 64 - p.begun ≡ 64 - q.begun
begun_same p q same = ap (λ (n : ℕ). 64 - n) same

aliases_same : (p q : Path) → length p.sets.items ≡ length q.sets.items → 17 - length p.sets.items ≡ 17 - length q.sets.items
aliases_same p q same = ap (λ (n : ℕ). 17 - n) same

-- one question less may be begun
pub begun_falls : (p q : Path) (s t h k d e l m : ℕ) → 64 - p.begun < 64 - q.begun → Digits (digits_of_path p s h d l)
    → weight (digits_of_path p s h d l) < weight (digits_of_path q t k e m)
begun_falls p q s t h k d e l m less all =
    let f : Falls (digits_of_path p s h d l) (digits_of_path q t k e m) = Falls.here less refl in weight_falls f all

-- one query less is left
pub sending_falls : (p q : Path) (s t h k d e l m : ℕ) → p.begun ≡ q.begun → 64 - (p.sent + s) < 64 - (q.sent + t) → Digits (digits_of_path p s h d l)
    → weight (digits_of_path p s h d l) < weight (digits_of_path q t k e m)
sending_falls p q s t h k d e l m begun less all =
    let f : Falls (digits_of_path p s h d l) (digits_of_path q t k e m) = stays (begun_same p q begun) (Falls.here less refl) in weight_falls f all

-- one alias less is left
pub alias_falls : (p q : Path) (s t h k d e l m : ℕ) → p.begun ≡ q.begun → 64 - (p.sent + s) ≡ 64 - (q.sent + t) → 17 - length p.sets.items < 17 - length q.sets.items
    → Digits (digits_of_path p s h d l) → weight (digits_of_path p s h d l) < weight (digits_of_path q t k e m)
alias_falls p q s t h k d e l m begun sent less all =
    let f : Falls (digits_of_path p s h d l) (digits_of_path q t k e m) = stays (begun_same p q begun) (stays sent (Falls.here less refl)) in weight_falls f all

-- what is open brings less
pub coming_falls : (p q : Path) (s t h k d e l m : ℕ) → p.begun ≡ q.begun → 64 - (p.sent + s) ≡ 64 - (q.sent + t) → length p.sets.items ≡ length q.sets.items → h < k
    → Digits (digits_of_path p s h d l) → weight (digits_of_path p s h d l) < weight (digits_of_path q t k e m)
coming_falls p q s t h k d e l m begun sent aliases less all =
    let f : Falls (digits_of_path p s h d l) (digits_of_path q t k e m) = stays (begun_same p q begun) (stays sent (stays (aliases_same p q aliases) (Falls.here less refl))) in weight_falls f all

-- less servers are left
pub servers_fall : (p q : Path) (s t h d e l m : ℕ) → p.begun ≡ q.begun → 64 - (p.sent + s) ≡ 64 - (q.sent + t) → length p.sets.items ≡ length q.sets.items → d < e
    → Digits (digits_of_path p s h d l) → weight (digits_of_path p s h d l) < weight (digits_of_path q t h e m)
servers_fall p q s t h d e l m begun sent aliases less all =
    let f : Falls (digits_of_path p s h d l) (digits_of_path q t h e m) = stays (begun_same p q begun) (stays sent (stays (aliases_same p q aliases) (Falls.there (Falls.here less refl)))) in weight_falls f all

-- one look less is left
pub looks_fall : (p q : Path) (s t h d l m : ℕ) → p.begun ≡ q.begun → 64 - (p.sent + s) ≡ 64 - (q.sent + t) → length p.sets.items ≡ length q.sets.items → l < m
    → Digits (digits_of_path p s h d l) → weight (digits_of_path p s h d l) < weight (digits_of_path q t h d m)
looks_fall p q s t h d l m begun sent aliases less all =
    let f : Falls (digits_of_path p s h d l) (digits_of_path q t h d m) = stays (begun_same p q begun) (stays sent (stays (aliases_same p q aliases) (Falls.there (Falls.there (Falls.here less refl))))) in weight_falls f all

-- Nothing is left of an answer, and an alias always may be.
abbrev pub nothing : List ℕ
nothing = 0 ∷ 0 ∷ 0 ∷ []

no_digits : Digits (0 ∷ 0 ∷ 0 ∷ nothing)
no_digits = (omega arith, (omega arith, (omega arith, (omega arith, (omega arith, (omega arith, tt))))))

zero_falls : (c a b k d m : ℕ) → 0 < b → weight (0 ∷ 0 ∷ 0 ∷ nothing) < weight (c ∷ a ∷ b ∷ k ∷ d ∷ m ∷ [])
zero_falls zero zero b k d m some =
    let f : Falls (0 ∷ 0 ∷ 0 ∷ nothing) (0 ∷ 0 ∷ b ∷ k ∷ d ∷ m ∷ []) = Falls.there (Falls.there (Falls.here some refl)) in weight_falls f no_digits
zero_falls zero (suc a) b k d m some =
    let f : Falls (0 ∷ 0 ∷ 0 ∷ nothing) (0 ∷ suc a ∷ b ∷ k ∷ d ∷ m ∷ []) = Falls.there (Falls.here (omega arith) refl) in weight_falls f no_digits
zero_falls (suc c) a b k d m some =
    let f : Falls (0 ∷ 0 ∷ 0 ∷ nothing) (suc c ∷ a ∷ b ∷ k ∷ d ∷ m ∷ []) = Falls.here (omega arith) refl in weight_falls f no_digits

pub ended_falls : (q : Path) (t k d m : ℕ) → length q.sets.items ≤ 16 → weight (0 ∷ 0 ∷ 0 ∷ nothing) < weight (digits_of_path q t k d m)
ended_falls q t k d m few = zero_falls (64 - q.begun) (64 - (q.sent + t)) (17 - length q.sets.items) k d m (omega (arith, few))
