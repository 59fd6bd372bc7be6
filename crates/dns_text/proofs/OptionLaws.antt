-- Steps that may give nothing.
use Rattle.std.proofs.Common.{◌≡◌, ℕ, List, Option, Some, None, refl, ap}
use Rattle.dns_name.specs.Options.{◌>>=◌}

-- two steps that gave something
pub record Stepped {A B : Type 0} (m : Option A) (f : A → Option B) (y : B) : Type 0 where
  pub from : A
  pub first : m ≡ Some from
  pub second : f from ≡ Some y

pub stepped : {A B : Type 0} (m : Option A) (f : A → Option B) (y : B) → (m >>= f) ≡ Some y → Stepped m f y
stepped None f y e = absurd cc
stepped (Some x) f y e = record { from = x; first = refl; second = e }

pub some_list : {X : Type 0} (xs ys : List X) → xs ≡ ys → Some xs ≡ Some ys
some_list {X} xs ys e = ap (λ (x : List X). let o : Option (List X) = Some x in o) e

pub some_number : (m n : ℕ) → m ≡ n → Some m ≡ Some n
some_number m n e = ap (λ (k : ℕ). let o : Option ℕ = Some k in o) e
