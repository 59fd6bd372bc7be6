-- Octets as a value keeps them, and the name that they spell from the root.
use Rattle.std.proofs.Common.{◌≡◌, ℕ, ◌≤◌, List, [], ◌∷◌, ◌++◌, length, take, drop, refl, sym, ap, subst, ◌∙◌, arith, length-append, length-drop, reverse}
use Rattle.std.specs.List.{AllByRecursion}
use Rattle.std.proofs.lemmas.List.{drop_at, take-append-drop, reverse-append, reverse-reverse, append-nil, length-take}
use Rattle.dns_name.specs.declared.limits.TheConstants.{MAX_NAME_OCTETS}
use Rattle.dns_name.specs.Building.{Begins}
use Rattle.dns_name.specs.Labels.{Labels, IsLabel, IsName, IsOctets, IsAtOrBelow, with_length, wire_len_with, spelled, octets_of, cut, labels_in, labels_of}
use Rattle.dns_name.specs.ListLaws.{all_push, all-reverse}
use Rattle.dns_name.specs.Octets.{labels_in-spelled_then, labels_in-spelled, labels_of-octets_of, spelled-append, length-spelled_push}

pub octets_of-append : (a b : Labels) → octets_of (a ++ b) ≡ octets_of b ++ octets_of a
octets_of-append a b = ap (λ (x : Labels). spelled x) (reverse-append a b) ∙ spelled-append (reverse b) (reverse a)

-- the octets of z are a prefix of those of n exactly where n is at or below z
pub below_from_prefix : (n z : Labels) (rest : List ℕ) → octets_of n ≡ octets_of z ++ rest → IsAtOrBelow n z
below_from_prefix n z rest e =
    let h = labels_in-spelled_then (reverse z) rest in
    let all : reverse n ≡ reverse z ++ cut h.0 rest = sym (labels_in-spelled (reverse n)) ∙ ap labels_in e ∙ h.1 in
    (reverse (cut h.0 rest), sym (reverse-reverse n) ∙ ap (λ (x : Labels). reverse x) all ∙ reverse-append (reverse z) (cut h.0 rest) ∙ ap (λ (x : Labels). reverse (cut h.0 rest) ++ x) (reverse-reverse z))

-- ---- octets as a value keeps them, and the name

pub length-spelled_reverse : (labels : Labels) → length (octets_of labels) ≡ length (spelled labels)
length-spelled_reverse [] = refl
length-spelled_reverse (l ∷ ls) =
    let e = octets_of-append (l ∷ []) ls in
    let one : octets_of (l ∷ []) ≡ with_length l ++ [] = refl in
    omega (arith, length-spelled_reverse ls, ap length e, length-append (octets_of ls) (octets_of (l ∷ [])), ap length one, length-append (with_length l) [], length-append (with_length l) (spelled ls))

-- what the octets of a name say of it
pub record Stands (octets : List ℕ) (labels : Labels) : Type 0 where
  pub octets_are : octets ≡ octets_of labels
  pub name : IsName labels

pub stands_from_view : (octets : List ℕ) (labels : Labels) → labels_of octets ≡ labels → IsOctets octets → Stands octets labels
stands_from_view octets labels e h =
    let back : reverse labels ≡ labels_in octets = ap (λ (x : Labels). reverse x) (sym e) ∙ reverse-reverse (labels_in octets) in
    let are : octets ≡ octets_of labels = sym h.spells ∙ ap (λ (x : Labels). spelled x) (sym back) in
    record {
      octets_are = are;
      name = record {
        each = subst (AllByRecursion IsLabel) e (all-reverse IsLabel (labels_in octets) h.each);
        short = omega (arith, h.short, ap length are, length-spelled_reverse labels);
      };
    }

pub octets_from_stands : (octets : List ℕ) (labels : Labels) → Stands octets labels → IsOctets octets
octets_from_stands octets labels h =
    let in' : labels_in octets ≡ reverse labels = ap labels_in h.octets_are ∙ labels_in-spelled (reverse labels) in
    record {
      spells = ap (λ (x : Labels). spelled x) in' ∙ sym h.octets_are;
      each = rw in' (all-reverse IsLabel labels h.name.each);
      short = omega (arith, h.name.short, ap length h.octets_are, length-spelled_reverse labels);
    }

pub view_of_octets : (octets : List ℕ) (labels : Labels) → octets ≡ octets_of labels → labels_of octets ≡ labels
view_of_octets octets labels e = ap labels_of e ∙ labels_of-octets_of labels

-- ---- the first label

pub first : (n : ℕ) (octets : List ℕ) → IsOctets (n ∷ octets) → (n ≤ length octets) × Begins (n ∷ octets) (take n octets) (drop n octets)
unfolding labels_in cut
first n octets h =
    let labels : Labels = cut (length octets) (drop n octets) in
    let e : length (take n octets) ∷ (take n octets ++ spelled labels) ≡ n ∷ octets = h.spells in
    let len : length (take n octets) ≡ n = cc in
    let parts : take n octets ++ spelled labels ≡ octets = cc in
    let rest : drop n octets ≡ spelled labels = ap (drop n) (sym parts) ∙ drop_at (take n octets) (spelled labels) n len in
    let in' : labels_in (drop n octets) ≡ labels = ap labels_in rest ∙ labels_in-spelled labels in (
      omega (arith, length-take n octets),
      record {
        parts = ap (λ (x : List ℕ). n ∷ x) (sym (take-append-drop n octets)) ∙ ap (λ (k : ℕ). k ∷ (take n octets ++ drop n octets)) (sym len);
        labels = ap (λ (x : Labels). take n octets ∷ x) (sym in');
        is_label = h.each.0;
        is_octets = record {
          spells = ap (λ (x : Labels). spelled x) in' ∙ sym rest;
          each = rw in' h.each.1;
          short = omega (arith, h.short, length-drop n octets);
        };
      },
    )

pub labels_in_nil : labels_in [] ≡ []
unfolding labels_in cut
labels_in_nil = refl

-- ---- one more label at the right

pub octets_of_push : (labels : Labels) (label : List ℕ) → octets_of (labels ++ label ∷ []) ≡ with_length label ++ octets_of labels
octets_of_push labels label = octets_of-append labels (label ∷ []) ∙ ap (λ (x : List ℕ). x ++ octets_of labels) (append-nil (with_length label))

pub stands_push : (octets : List ℕ) (labels : Labels) (label : List ℕ) → Stands octets labels → IsLabel label → wire_len_with labels (length label) ≤ MAX_NAME_OCTETS → Stands (with_length label ++ octets) (labels ++ label ∷ [])
stands_push octets labels label h one room =
    record {
      octets_are = ap (λ (x : List ℕ). with_length label ++ x) h.octets_are ∙ sym (octets_of_push labels label);
      name = record {
        each = all_push IsLabel labels label h.name.each one;
        short = omega (arith, length-spelled_push labels label);
      };
    }

pub no_labels : Stands [] []
no_labels = record { octets_are = refl; name = record { each = tt; short = omega arith } }

pub spelled_nothing : (labels : Labels) → length (spelled labels) ≡ 0 → labels ≡ []
spelled_nothing [] e = refl
spelled_nothing (l ∷ ls) e = absurd (omega (arith, length-append l (spelled ls)))
