-- The zone that a new record's owner brings with it, and small facts of lists and results.
use Rattle.std.proofs.Common.{◌≡◌, ℕ, zero, suc, ◌≤◌, List, [], ◌∷◌, ◌++◌, length, map, false, cond, insert, slice_get, Option, Some, None, refl, ap, sym, ◌∙◌, arith}
use Rattle.std.specs.Prelude.{is_some, Result, Ok, Err, OnOk, OnErr}
use Rattle.std.specs.Option.{option_map, option_or}
use Rattle.std.proofs.lemmas.Bool.{false≢true}
use Rattle.dns_name.specs.Labels.{Labels}
use Rattle.named_list.specs.ClosestLaws.{has_named-found}
use Rattle.local_zone.specs.declared.zone.Zone.{Zone}
use Rattle.local_zone.specs.declared.zone_type.ZoneType.TheVariants.{Transparent}
use Rattle.local_zone.specs.Change.{put_over, zones_with, zones_for}
use Rattle.local_zone.specs.Closest.{zone_named, closest}

pub get-insert : {X : Type 0} (xs : List X) (i : ℕ) (x : X) → i ≤ length xs → slice_get (insert xs i x) i ≡ Some x
get-insert [] zero x within = refl
get-insert [] (suc i) x within = absurd (omega arith)
get-insert (y ∷ xs) zero x within = refl
get-insert (y ∷ xs) (suc i) x within = get-insert xs i x (omega arith)

pub on_ok : {X E A B C : Type 0} (r : Result X E) → OnOk r A → OnOk r B → (A → B → C) → OnOk r C
on_ok (Ok x) a b f = f a b
on_ok (Err e) a b f = tt

pub on_err : {X E A : Type 0} (r : Result X E) → A → OnErr r A
on_err (Ok x) a = tt
on_err (Err e) a = a

pub none_from : {X : Type 0} (r : Option X) → is_some r ≡ false → r ≡ None
none_from None e = refl
none_from (Some x) e = absurd (false≢true (sym e))

pub push-with : (zones : List Zone) (new : Zone) → zone_named zones new.name ≡ None → zones ++ new ∷ [] ≡ zones_with new zones
push-with zones new none = sym (ap (λ b. cond b (map (put_over new) zones) (zones ++ new ∷ [])) (has_named-found (λ (z : Zone). z.name) zones new.name ∙ ap is_some none))

some_map : {X Y : Type 0} (f : X → Y) (r : Option X) → is_some (option_map f r) ≡ is_some r
some_map f None = refl
some_map f (Some x) = refl

none_named : (zones : List Zone) (name : Labels) → closest zones name ≡ None → zone_named zones name ≡ None
none_named zones [] e = e
none_named zones (l ∷ name) e = by (zone_named zones (l ∷ name)) e
  where
    by : (r : Option Zone) → option_or r (closest zones name) ≡ None → r ≡ None
    by None e = refl
    by (Some z) e = absurd cc

-- where no zone covers an owner, one of its name goes last
pub implied_last : {X : Type 0} (see : X → Zone) (zones : List Zone) (owner : Labels) (found : Option X) (new : Zone) → is_some found ≡ false → option_map see found ≡ closest zones owner → new ≡ record { name = owner; kind = Transparent }
    → zones_with new zones ≡ zones_for owner zones
implied_last see zones owner found new none is named =
    let apart : is_some (closest zones owner) ≡ false = ap is_some (sym is) ∙ some_map see found ∙ none in
    let absent : zone_named zones new.name ≡ None = ap (λ (z : Zone). zone_named zones z.name) named ∙ none_named zones owner (none_from (closest zones owner) apart) in
    sym (push-with zones new absent) ∙ ap (λ (z : Zone). zones ++ z ∷ []) named ∙ sym (ap (λ b. cond b zones (zones ++ (record { name = owner; kind = Transparent }) ∷ [])) apart)
