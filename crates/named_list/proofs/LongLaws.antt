-- A bound on the octets of the names of a list, after each change; and the names that are too short to be there.
use Rattle.std.proofs.Common.{◌≡◌, ℕ, zero, suc, ◌<◌, ◌≤◌, true, false, List, [], ◌∷◌, ◌++◌, length, min, insert, remove, Option, None, refl, ap, sym, subst, ◌∙◌, arith, length-append, inl, inr}
use Rattle.std.specs.List.{AllByRecursion}
use Rattle.std.specs.Option.{option_or}
use Rattle.std.proofs.lemmas.Bool.{cases_Bool, false≢true}
use Rattle.dns_name.specs.Labels.{Labels, octets_of, with_length}
use Rattle.dns_name.specs.Octets.{octets_of-child}
use Rattle.dns_name.specs.Order.{name_eq, name_eq_exact}
use Rattle.named_list.specs.Named.{has_named, list_with, list_without}
use Rattle.named_list.specs.NamedLaws.{names_over}
use Rattle.named_list.specs.Closest.{closest_of, find_named}
use Rattle.named_list.specs.Keyed.{AreAsLong}
use Rattle.named_list.specs.Turn.{other_of, puts_in, HasPlace}
use Rattle.named_list.specs.declared.turn.Turn.{Turn}
use Rattle.named_list.specs.declared.turn.Turn.TheVariants.{Nothing, Other, Without, With}

pub min_first : (a b n : ℕ) → n ≡ min a b → n ≤ a
min_first a b n is = omega (arith, is)

pub min_second : (a b n c : ℕ) → n ≡ min a b → b ≡ c → n ≤ c
min_second a b n c is same = omega (arith, is, same)

module _ {T : Type 0} (name_of : T → Labels) where
  -- a lower bound is one too
  pub long_less : (more less : ℕ) (things : List T) → less ≤ more → AreAsLong name_of more things → AreAsLong name_of less things
  long_less more less [] low h = tt
  long_less more less (x ∷ things) low h = let here = h.0 in (omega (arith, low, here), long_less more less things low h.1)

  long_push : (least : ℕ) (things : List T) (new : T) → least ≤ length (octets_of (name_of new)) → AreAsLong name_of least things → AreAsLong name_of least (things ++ new ∷ [])
  long_push least [] new low h = (low, tt)
  long_push least (x ∷ things) new low h = (h.0, long_push least things new low h.1)

  pub long_with : (least : ℕ) (things : List T) (new : T) → least ≤ length (octets_of (name_of new)) → AreAsLong name_of least things → AreAsLong name_of least (list_with name_of new things)
  long_with least things new low h =
      elim (cases_Bool (has_named name_of things (name_of new))) [
        | inl has ↦ rw has (subst (λ ns. AllByRecursion (λ name. least ≤ length (octets_of name)) ns) (sym (names_over name_of new things)) h)
        | inr none ↦ rw none (long_push least things new low h)
      ]

  pub long_without : (least : ℕ) (things : List T) (name : Labels) → AreAsLong name_of least things → AreAsLong name_of least (list_without name_of name things)
  long_without least [] name h = tt
  long_without least (x ∷ things) name h =
      elim (cases_Bool (name_eq (name_of x) name)) [
        | inl same ↦ rw same (long_without least things name h.1)
        | inr apart ↦ rw apart (h.0, long_without least things name h.1)
      ]

  long_insert : (least : ℕ) (things : List T) (i : ℕ) (new : T) → least ≤ length (octets_of (name_of new)) → AreAsLong name_of least things → AreAsLong name_of least (insert things i new)
  long_insert least [] zero new low h = (low, tt)
  long_insert least [] (suc i) new low h = (low, tt)
  long_insert least (x ∷ things) zero new low h = (low, h)
  long_insert least (x ∷ things) (suc i) new low h = (h.0, long_insert least things i new low h.1)

  long_remove : (least : ℕ) (things : List T) (i : ℕ) → AreAsLong name_of least things → AreAsLong name_of least (remove things i)
  long_remove least [] zero h = tt
  long_remove least [] (suc i) h = tt
  long_remove least (x ∷ things) zero h = h.1
  long_remove least (x ∷ things) (suc i) h = (h.0, long_remove least things i h.1)

  pub long_in : (least : ℕ) (things : List T) (turn : Turn T) → puts_in turn ≡ true → ((place : ℕ) (thing : T) → turn ≡ With place thing → least ≤ length (octets_of (name_of thing))) → AreAsLong name_of least things → AreAsLong name_of least (other_of turn things)
  long_in least things Nothing puts low h = h
  long_in least things (Other place thing) puts low h = absurd (false≢true puts)
  long_in least things (Without place) puts low h = absurd (false≢true puts)
  long_in least things (With place thing) puts low h = long_insert least things place thing (low place thing refl) h

  pub long_out : (least : ℕ) (things : List T) (turn : Turn T) → puts_in turn ≡ false → HasPlace name_of turn things → AreAsLong name_of least things → AreAsLong name_of least (other_of turn things)
  long_out least things Nothing puts fits h = h
  long_out least things (Other place thing) puts fits h = subst (λ ns. AllByRecursion (λ name. least ≤ length (octets_of name)) ns) (sym fits.1) h
  long_out least things (Without place) puts fits h = long_remove least things place h
  long_out least things (With place thing) puts fits h = absurd (false≢true (sym puts))

  short_none : (least : ℕ) (things : List T) (name : Labels) → AreAsLong name_of least things → length (octets_of name) < least → find_named name_of things name ≡ None
  short_none least [] name h short = refl
  short_none least (x ∷ things) name h short =
      elim (cases_Bool (name_eq (name_of x) name)) [
        | inl same ↦ let len = ap (λ (n : Labels). length (octets_of n)) (name_eq_exact (name_of x) name same) in let here = h.0 in absurd (omega (arith, len, here, short))
        | inr apart ↦ rw apart (short_none least things name h.1 short)
      ]

  -- nothing is at or above a name that is too short
  pub closest_short : (least : ℕ) (things : List T) (name : Labels) → AreAsLong name_of least things → length (octets_of name) < least → closest_of name_of things name ≡ None
  closest_short least things [] h short = short_none least things [] h short
  closest_short least things (l ∷ name) h short =
      let child = ap length (octets_of-child l name) ∙ length-append (octets_of name) (with_length l) in
      ap (λ (r : Option T). option_or r (closest_of name_of things name)) (short_none least things (l ∷ name) h short) ∙ closest_short least things name h (omega (arith, child, short))

  -- the same, where the octets of the name are at hand
  pub closest_few : (least : ℕ) (things : List T) (name : Labels) (octets : List ℕ) → AreAsLong name_of least things → octets ≡ octets_of name → length octets < least → closest_of name_of things name ≡ None
  closest_few least things name octets h is few = closest_short least things name h (subst (λ n. n < least) (ap length is) few)
