-- The first of a list of which something holds, as a loop comes to it.
use Rattle.std.proofs.Common.{◌≡◌, ℕ, ◌<◌, List, map, length, take, get_or, sym, ap, ◌∙◌, subst, arith}
use Rattle.std.specs.List.{AllByRecursion}
use Rattle.std.proofs.lemmas.List.{length-map, get_or-map, take-map}
use Rattle.dns_query.specs.Believed.{IsFirst}

module _ {X Y : Type 0} (P : X → Type 0) (f : Y → X) (ys : List Y) where
  abbrev NoneOf : List X → Type 0
  NoneOf xs = AllByRecursion (λ x. ¬ (P x)) xs

  pub first_here : (i : ℕ) (y : Y) → i < length ys → y ≡ get_or ys i y → NoneOf (map f (take i ys)) → P (f y) → IsFirst P (map f ys) (f y)
  first_here i y within is before here =
      let as_many : length (map f ys) ≡ length ys = length-map ys f in record {
        at = i;
        within = omega (arith, as_many);
        stands = get_or-map f ys i y (f y) within ∙ ap f (sym is);
        holds = here;
        none_before = subst NoneOf (sym (take-map f i ys)) before;
      }
