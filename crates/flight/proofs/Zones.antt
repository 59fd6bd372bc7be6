-- The zone of a name among the octets of the name.
use Rattle.std.proofs.Common.{◌≡◌, ◌∙◌, ◌≤◌, ◌+◌, ℕ, List, [], ◌∷◌, ◌++◌, length, take, drop, refl, ap, sym, arith}
use Rattle.std.specs.Prelude.{Some, None, reverse, slice_get}
use Rattle.std.proofs.lemmas.List.{append-nil, length-append, reverse-reverse}
use Rattle.std.proofs.lemmas.List.Concat.{flat_map-cons}
use Rattle.std.proofs.Math.Seq.{drop-append_seam, take-append-add, take-append_seam}
use Rattle.dns_name.specs.Labels.{Labels, octets_of, spelled, with_length}
use Rattle.flight.specs.Origin.{zone_of}
use Rattle.flight.specs.Zones.{label_end}

-- The end of the first label, by the first octet.
pub end_none : (octets : List ℕ) → None ≡ slice_get octets 0 → 0 ≡ label_end octets
end_none [] is = refl
end_none (count ∷ rest) is = absurd (cc is)

pub end_some : (octets : List ℕ) (count : ℕ) → Some count ≡ slice_get octets 0 → count + 1 ≡ label_end octets
end_some [] count is = absurd (cc is)
end_some (first ∷ rest) count is =
    let same : count ≡ first = cc is in
    omega (arith, same)

-- The first label is cut off by its length, and the second one then by its own.
abbrev two_end : List ℕ → ℕ
two_end octets = label_end octets + label_end (drop (label_end octets) octets)

record AreFirst (octets a b tail : List ℕ) : Type 0 where
  parts : octets ≡ a ++ (b ++ tail)
  first : label_end octets ≡ length a
  second : label_end (drop (length a) octets) ≡ length b

cut_two : (octets a b tail : List ℕ) → AreFirst octets a b tail → take (two_end octets) octets ≡ a ++ b
cut_two octets a b tail are =
    let ends : two_end octets ≡ length a + length b = rw are.first (ap (λ (n : ℕ). length a + n) are.second) in
    ap (λ (n : ℕ). take n octets) ends ∙ ap (take (length a + length b)) are.parts ∙ take-append-add a (b ++ tail) (length b) ∙ ap (λ (rest : List ℕ). a ++ rest) (take-append_seam b tail)

within_two : (octets a b tail : List ℕ) → AreFirst octets a b tail → two_end octets ≤ length octets
within_two octets a b tail are =
    let ends : two_end octets ≡ length a + length b = rw are.first (ap (λ (n : ℕ). length a + n) are.second) in
    omega (arith, ends, ap length are.parts, length-append a (b ++ tail), length-append b tail)

first_end : (label rest : List ℕ) → label_end (with_length label ++ rest) ≡ length (with_length label)
first_end label rest = omega arith

-- the octets of labels, the first two apart
first_two : (labels : Labels) → (a : List ℕ) × (b : List ℕ) × (tail : List ℕ) × AreFirst (spelled labels) a b tail × (a ++ b ≡ spelled (take 2 labels))
first_two [] = ([], [], [], record { parts = refl; first = refl; second = refl }, refl)
first_two (label ∷ []) =
    let a : List ℕ = with_length label in
    let parts : spelled (label ∷ []) ≡ a ++ ([] ++ []) = flat_map-cons with_length label [] in (
      a,
      [],
      [],
      record {
        parts = parts;
        first = ap label_end parts ∙ first_end label [];
        second = ap (λ (o : List ℕ). label_end (drop (length a) o)) parts ∙ ap label_end (drop-append_seam a []);
      },
      sym parts,
    )
first_two (label ∷ next ∷ rest) =
    let a : List ℕ = with_length label in
    let b : List ℕ = with_length next in
    let parts : spelled (label ∷ next ∷ rest) ≡ a ++ (b ++ spelled rest) = flat_map-cons with_length label (next ∷ rest) ∙ ap (λ (o : List ℕ). a ++ o) (flat_map-cons with_length next rest) in (
      a,
      b,
      spelled rest,
      record {
        parts = parts;
        first = ap label_end parts ∙ first_end label (b ++ spelled rest);
        second = ap (λ (o : List ℕ). label_end (drop (length a) o)) parts ∙ ap label_end (drop-append_seam a (b ++ spelled rest)) ∙ first_end next (spelled rest);
      },
      sym (flat_map-cons with_length label (next ∷ []) ∙ ap (λ (o : List ℕ). a ++ o) (flat_map-cons with_length next [] ∙ append-nil b)),
    )

within_name : (name : Labels) → two_end (octets_of name) ≤ length (octets_of name)
within_name name =
    let two = first_two (reverse name) in
    within_two (octets_of name) two.0 two.1 two.2 two.3

module _ (name : Labels) (octets : List ℕ) (is : octets ≡ octets_of name) where
  within : two_end octets ≤ length octets
  within = rw is (within_name name)

  -- The first label ends within the name.
  pub first_within : (first : ℕ) → first ≡ label_end octets → first ≤ length octets
  first_within first a = omega (arith, within, a)

  module _ (first second : ℕ) (a : first ≡ label_end octets) (b : second ≡ label_end (drop first octets)) where
    both_end : first + second ≡ two_end octets
    both_end = rw b (rw a refl)

    -- So does the second one, and the two are the zone.
    pub zone_within : first + second ≤ length octets
    zone_within = omega (arith, within, both_end)

    pub zone_cut : take (first + second) octets ≡ octets_of (zone_of name)
    zone_cut =
        let two = first_two (reverse name) in
        ap (λ (n : ℕ). take n octets) both_end ∙ ap (λ (o : List ℕ). take (two_end o) o) is ∙ cut_two (octets_of name) two.0 two.1 two.2 two.3 ∙ two.4
        ∙ sym (ap spelled (reverse-reverse (take 2 (reverse name))))
