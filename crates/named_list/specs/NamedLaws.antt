-- The names of a list after a change: lemmas for the crates above.
use Rattle.std.proofs.Common.{◌≡◌, false, not, List, [], ◌∷◌, ◌++◌, map, refl, ap, sym, inl, inr}
use Rattle.std.specs.List.{IsDistinct, AllByRecursion}
use Rattle.std.proofs.lemmas.Bool.{cases_Bool}
use Rattle.dns_name.specs.Labels.{Labels}
use Rattle.dns_name.specs.Order.{name_eq, name_eq_exact}
use Rattle.named_list.specs.Named.{AreNamed, has_named, put_over, list_with, list_without}
use Rattle.named_list.specs.ListLaws.{any_none, distinct_push, distinct_filter}

-- an empty list names nothing twice
pub none_named : {T : Type 0} (name_of : T → Labels) → AreNamed name_of []
unfolding IsDistinct
none_named {T} name_of = tt

-- a thing that may be replaced keeps its name
pub name_of_over : {T : Type 0} (name_of : T → Labels) → (new s : T) → name_of (put_over name_of new s) ≡ (name_of s)
name_of_over {T} name_of new s =
    elim (cases_Bool (name_eq (name_of s) (name_of new))) [
      | inl same ↦ rw same (sym (name_eq_exact (name_of s) (name_of new) same))
      | inr apart ↦ rw apart refl
    ]

-- replacing a thing keeps all names
pub names_over : {T : Type 0} (name_of : T → Labels) → (new : T) (things : List T) → map (λ (s : T). (name_of s)) (map (put_over name_of new) things) ≡ map (λ (s : T). (name_of s)) things
names_over {T} name_of new [] = refl
names_over {T} name_of new (s ∷ things) = rw (name_of_over name_of new s, names_over name_of new things) refl

apart_names : {T : Type 0} (name_of : T → Labels) → (name : Labels) (things : List T) → AllByRecursion (λ (s : T). name_eq (name_of s) name ≡ false) things → AllByRecursion (λ other. name_eq other name ≡ false) (map (λ (s : T). (name_of s)) things)
apart_names {T} name_of name [] h = tt
apart_names {T} name_of name (s ∷ things) h = (h.0, apart_names name_of name things h.1)

names_append : {T : Type 0} (name_of : T → Labels) → (xs : List T) (x : T) → map (λ (s : T). (name_of s)) (xs ++ x ∷ []) ≡ map (λ (s : T). (name_of s)) xs ++ (name_of x) ∷ []
names_append {T} name_of [] x = refl
names_append {T} name_of (y ∷ xs) x = ap (λ (ls : List Labels). (name_of y) ∷ ls) (names_append name_of xs x)

-- a new name can go last
pub names_push : {T : Type 0} (name_of : T → Labels) → (new : T) (things : List T) → has_named name_of things (name_of new) ≡ false → IsDistinct name_eq (map (λ (s : T). (name_of s)) things) → IsDistinct name_eq (map (λ (s : T). (name_of s)) (things ++ new ∷ []))
names_push {T} name_of new things new' h =
    rw (names_append name_of things new) (distinct_push name_eq (map (λ (s : T). (name_of s)) things) (name_of new) h (apart_names name_of (name_of new) things (any_none (λ (s : T). name_eq (name_of s) (name_of new)) things new')))

-- a list with a new thing still names nothing twice
pub names_with : {T : Type 0} (name_of : T → Labels) → (new : T) (things : List T) → IsDistinct name_eq (map (λ (s : T). (name_of s)) things) → IsDistinct name_eq (map (λ (s : T). (name_of s)) (list_with name_of new things))
names_with {T} name_of new things h =
    elim (cases_Bool (has_named name_of things (name_of new))) [
      | inl has ↦ rw has (rw (names_over name_of new things) h)
      | inr new' ↦ rw new' (names_push name_of new things new' h)
    ]

-- a list without a name still names nothing twice
pub names_without : {T : Type 0} (name_of : T → Labels) → (name : Labels) (things : List T) → AreNamed name_of things → AreNamed name_of (list_without name_of name things)
names_without {T} name_of name things h = distinct_filter (λ x. name_of x) name_eq (λ x. not (name_eq (name_of x) name)) things h
