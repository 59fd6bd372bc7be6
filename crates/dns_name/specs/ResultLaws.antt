-- What steps that may fail came to: lemmas, which proofs here and in the crates above cite. No contract needs them.
use Rattle.std.proofs.Common.{◌≡◌, ◌⊎◌, Option, Some, None, Result, Ok, Err, refl, ap, inl, inr}
use Rattle.std.specs.Prelude.{MatchResult, OnOk}
use Rattle.dns_name.specs.Results.{◌>>=◌, or_fault, GivesBut}

-- what was found is the same if both found the same
pub some_same : {A : Type 0} {x y : A} → Some x ≡ Some y → x ≡ y
some_same e = cc

-- ---- one step after another

-- if a sequence of two steps succeeds, the first does, and the second on its value
pub bound_ok : {A B E : Type 0} (r : Result A E) (f : A → Result B E) (y : B) → r >>= f ≡ Ok y → (x : A) × ((r ≡ Ok x) × (f x ≡ Ok y))
bound_ok (Ok x) f y e = (x, (refl, e))
bound_ok (Err fault) f y e = absurd cc

-- if a sequence of two steps fails, one of the two does
pub bound_err : {A B E : Type 0} (r : Result A E) (f : A → Result B E) (fault : E) → r >>= f ≡ Err fault → (r ≡ Err fault) ⊎ ((x : A) × ((r ≡ Ok x) × (f x ≡ Err fault)))
bound_err {A} {B} {E} (Ok x) f fault e = inr (x, (refl, e))
bound_err {A} {B} {E} (Err told) f fault e = inl (let same : told ≡ fault = cc in ap (λ (x : E). Err x) same)

-- if there was no fault, something was found
pub or_fault-ok : {A E : Type 0} (fault : E) (o : Option A) (x : A) → or_fault fault o ≡ Ok x → o ≡ Some x
or_fault-ok fault None x e = absurd cc
or_fault-ok fault (Some z) x e = let same : z ≡ x = cc in ap Some same

-- if there was a fault, nothing was found, and it is the fault named
pub or_fault-err : {A E : Type 0} (told : E) (o : Option A) (fault : E) → or_fault told o ≡ Err fault → (o ≡ None) × (told ≡ fault)
or_fault-err told None fault e = (refl, cc)
or_fault-err told (Some x) fault e = absurd cc

-- ---- what is told of a step's value or fault

-- a fault of the first step is that of both
pub gives_then : {A B E : Type 0} (no_memory fault : E) (r : Result A E) (f : A → Result B E) → GivesBut no_memory (Err fault) r → GivesBut no_memory (Err fault) (r >>= f)
gives_then {A} {B} {E} no_memory fault r f told = λ other. ap (λ (x : Result A E). x >>= f) (told other)

-- a fact that always holds also holds on success
pub on_ok : {A E : Type 0} (r : Result A E) (P : Type 0) → P → OnOk r P
on_ok (Ok x) P p = p
on_ok (Err fault) P p = tt

-- weaker facts of the value and of the fault hold too
pub match_weaker : {A E : Type 0} (r : Result A E) (P : A → Type 0) (Q : E → Type 0) (P' : A → Type 0) (Q' : E → Type 0) → MatchResult r P Q → ((x : A) → P x → P' x) → ((fault : E) → Q fault → Q' fault) → MatchResult r P' Q'
match_weaker (Ok x) P Q P' Q' h found failed = found x h
match_weaker (Err fault) P Q P' Q' h found failed = failed fault h

-- facts of a result hold of its image under a function
pub then_match : {A B E : Type 0} (r : Result A E) (f : A → B) (P : A → Type 0) (Q : E → Type 0) (P' : B → Type 0) (Q' : E → Type 0) → MatchResult r P Q → ((x : A) → P x → P' (f x)) → ((fault : E) → Q fault → Q' fault) → MatchResult (r >>= λ x. Ok (f x)) P' Q'
then_match (Ok x) f P Q P' Q' h found failed = found x h
then_match (Err fault) f P Q P' Q' h found failed = failed fault h
