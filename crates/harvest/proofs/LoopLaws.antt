-- What a loop has made of the first elements, with one more.
use Rattle.std.proofs.Common.{◌≡◌, ℕ, ◌+◌, ◌<◌, Bool, true, false, ◌||◌, List, [], ◌∷◌, ◌++◌, map, length, take, drop, get_or, set, sym, ap, ◌∙◌, arith, append_assoc}
use Rattle.std.specs.List.{list_any}
use Rattle.std.proofs.lemmas.List.{length-map, length-take-le, drop_more, map_more, get_or_at, set_at, take_more}
use Rattle.std.proofs.lemmas.List.Folds.{list_any_more}
use Rattle.harvest.specs.Counted.{Ranked}
use Rattle.harvest.specs.Sets.{Set, sets_of, joined, begun, has_set}
use Rattle.harvest.proofs.SetLaws.{sets_join, sets_begin}

module _ {X : Type 0} (f : X → X) (xs ys : List X) (i : ℕ) (x : X) where
  front_length : i < length xs → length (map f (take i xs)) ≡ i
  front_length h = length-map (take i xs) f ∙ length-take-le i xs (omega arith)

  in_parts : i < length xs → ys ≡ map f (take i xs) ++ drop i xs → ys ≡ map f (take i xs) ++ get_or xs i x ∷ drop (i + 1) xs
  in_parts h e = e ∙ ap (λ (zs : List X). map f (take i xs) ++ zs) (drop_more xs i x h)

  -- the element that comes is as it was
  pub still : i < length xs → ys ≡ map f (take i xs) ++ drop i xs → x ≡ get_or ys i x → x ≡ get_or xs i x
  still h e is = is ∙ ap (λ (zs : List X). get_or zs i x) (in_parts h e) ∙ get_or_at (map f (take i xs)) (get_or xs i x) (drop (i + 1) xs) x i (front_length h)

  pub map_step : (v : X) → i < length xs → ys ≡ map f (take i xs) ++ drop i xs → x ≡ get_or ys i x → v ≡ f x → set ys i v ≡ map f (take (i + 1) xs) ++ drop (i + 1) xs
  map_step v h e is new =
      let value : v ≡ f (get_or xs i x) = new ∙ ap f (still h e is) in
      ap (λ (zs : List X). set zs i v) (in_parts h e)
      ∙ set_at (map f (take i xs)) (get_or xs i x) (drop (i + 1) xs) v i (front_length h)
      ∙ ap (λ (z : X). map f (take i xs) ++ z ∷ drop (i + 1) xs) value
      ∙ sym (append_assoc (map f (take i xs)) (f (get_or xs i x) ∷ []) (drop (i + 1) xs))
      ∙ ap (λ (zs : List X). zs ++ drop (i + 1) xs) (sym (map_more f xs i x h))

-- whether one of the first passes, with one element more
pub told_step : {X : Type 0} (p : X → Bool) (xs : List X) (i : ℕ) (x : X) (found answer : Bool) → i < length xs → x ≡ get_or xs i x → found ≡ list_any p (take i xs) → answer ≡ p x → (found || answer) ≡ list_any p (take (i + 1) xs)
told_step {X} p xs i x found answer h is before now =
    ap (λ b. b || answer) before ∙ ap (λ b. list_any p (take i xs) || b) (now ∙ ap p is) ∙ sym (list_any_more p xs i x h)

taken : {X : Type 0} (xs : List X) (i : ℕ) (x : X) → i < length xs → x ≡ get_or xs i x → take (i + 1) xs ≡ take i xs ++ x ∷ []
taken {X} xs i x h is = take_more xs i x h ∙ ap (λ (y : X). take i xs ++ y ∷ []) (sym is)

pub join_step : (xs : List Ranked) (i : ℕ) (r : Ranked) (before after : List Set) → i < length xs → r ≡ get_or xs i r → before ≡ sets_of (take i xs) → has_set before r ≡ true → after ≡ map (joined r) before → after ≡ sets_of (take (i + 1) xs)
join_step xs i r before after h is so_far has e =
    e ∙ ap (λ (ss : List Set). map (joined r) ss) so_far
    ∙ sym (sets_join (take i xs) r (ap (λ (ss : List Set). has_set ss r) (sym so_far) ∙ has))
    ∙ ap (λ (rs : List Ranked). sets_of rs) (sym (taken xs i r h is))

pub begin_step : (xs : List Ranked) (i : ℕ) (r : Ranked) (before after : List Set) → i < length xs → r ≡ get_or xs i r → before ≡ sets_of (take i xs) → has_set before r ≡ false → after ≡ map (joined r) before ++ begun r ∷ [] → after ≡ sets_of (take (i + 1) xs)
begin_step xs i r before after h is so_far has e =
    e ∙ ap (λ (ss : List Set). map (joined r) ss ++ begun r ∷ []) so_far
    ∙ sym (sets_begin (take i xs) r (ap (λ (ss : List Set). has_set ss r) (sym so_far) ∙ has))
    ∙ ap (λ (rs : List Ranked). sets_of rs) (sym (taken xs i r h is))
