-- The mask of a name has the bits of each name at or above it.
use Rattle.std.proofs.Common.{◌≡◌, ℕ, ◌-◌, min, Bool, true, false, ◌||◌, ◌==◌, List, [], ◌∷◌, ◌++◌, fold, length, take, refl, ap, sym, subst, ◌∙◌, arith, length-append}
use Rattle.std.specs.Int.{bit_at}
use Rattle.std.specs.Int.Bits.{bit_and, bit_or}
use Rattle.std.proofs.lemmas.Bool.{false≢true, eq-eqb}
use Rattle.std.proofs.lemmas.List.{take_at}
use Rattle.std.proofs.lemmas.Nat.{and_or_self}
use Rattle.std.proofs.lemmas.Nat.Bits.{bit_at_and, bit_at_or, same_from_bits}
use Rattle.dns_name.specs.Below.{is_at_or_below}
use Rattle.dns_name.specs.Labels.{Labels, octets_of, with_length}
use Rattle.dns_name.specs.Octets.{octets_of-child}
use Rattle.dns_name.specs.Order.{name_eq, name_eq_exact}
use Rattle.local_zone.specs.Mask.{bits_of, mask_of, mask_with}
use Rattle.local_zone.specs.Tag.{tag_of, tag_with}

-- ---- bits

-- more bits take none away
or_keeps : (a b x : ℕ) → bit_and a b ≡ b → bit_and (bit_or a x) b ≡ b
or_keeps a b x has = same_from_bits (bit_and (bit_or a x) b) b (λ i.
    let here : min (bit_at a i) (bit_at b i) ≡ bit_at b i = sym (bit_at_and a b i) ∙ ap (λ n. bit_at n i) has in
    bit_at_and (bit_or a x) b i ∙ ap (λ n. min n (bit_at b i)) (bit_at_or a x i) ∙ grind (arith, here))

with_keeps : (mask b : ℕ) (name : Labels) → bit_and mask b ≡ b → bit_and (mask_with mask name) b ≡ b
with_keeps mask b [] has = or_keeps mask b (bits_of (tag_of [])) has
with_keeps mask b (label ∷ labels) has = with_keeps (bit_or mask (bits_of (tag_of (label ∷ labels)))) b labels (or_keeps mask b (bits_of (tag_of (label ∷ labels))) has)

-- the bits of the name itself
with_own : (mask : ℕ) (name : Labels) → bit_and (mask_with mask name) (bits_of (tag_of name)) ≡ bits_of (tag_of name)
with_own mask [] = and_or_self (bits_of (tag_of [])) mask
with_own mask (label ∷ labels) =
    with_keeps (bit_or mask (bits_of (tag_of (label ∷ labels)))) (bits_of (tag_of (label ∷ labels))) labels (and_or_self (bits_of (tag_of (label ∷ labels))) mask)

with_above : (mask : ℕ) (name zone : Labels) → is_at_or_below name zone ≡ true → bit_and (mask_with mask name) (bits_of (tag_of zone)) ≡ bits_of (tag_of zone)
with_above mask [] zone below = subst (λ (z : Labels). bit_and (mask_with mask []) (bits_of (tag_of z)) ≡ bits_of (tag_of z)) (name_eq_exact [] zone below) (with_own mask [])
with_above mask (label ∷ labels) zone below = by (name_eq (label ∷ labels) zone) refl below (with_above (bit_or mask (bits_of (tag_of (label ∷ labels)))) labels zone)
  where
    by : (b : Bool) → name_eq (label ∷ labels) zone ≡ b → (b || is_at_or_below labels zone) ≡ true
        → (is_at_or_below labels zone ≡ true → bit_and (mask_with (bit_or mask (bits_of (tag_of (label ∷ labels)))) labels) (bits_of (tag_of zone)) ≡ bits_of (tag_of zone))
        → bit_and (mask_with mask (label ∷ labels)) (bits_of (tag_of zone)) ≡ bits_of (tag_of zone)
    by true same more rest =
        subst (λ (z : Labels). bit_and (mask_with mask (label ∷ labels)) (bits_of (tag_of z)) ≡ bits_of (tag_of z)) (name_eq_exact (label ∷ labels) zone same) (with_own mask (label ∷ labels))
    by false same more rest = rest more

-- where a bit of a zone lacks, the name is not below it
pub other_mask : (name zone : Labels) (mask bits : ℕ) → mask ≡ mask_of name → bits ≡ bits_of (tag_of zone) → (bit_and mask bits == bits) ≡ false → false ≡ is_at_or_below name zone
other_mask name zone mask bits is are lacks = by (is_at_or_below name zone) refl
  where
    by : (r : Bool) → is_at_or_below name zone ≡ r → false ≡ r
    by true below =
        let has : bit_and mask bits ≡ bits = (λ i. bit_and (is i) (are i)) ∙ with_above 0 name zone below ∙ sym are in
        absurd (false≢true (sym lacks ∙ eq-eqb (bit_and mask bits) bits has))
    by false below = refl

-- ---- the walk from a name to the root

pub octets_above : (octets label : List ℕ) (name : Labels) → octets ≡ octets_of (label ∷ name) → take (length octets - length label - 1) octets ≡ octets_of name
octets_above octets label name e =
    let is : octets ≡ octets_of name ++ with_length label = e ∙ octets_of-child label name in
    let long : length octets - length label - 1 ≡ length (octets_of name) = omega (arith, ap length is, length-append (octets_of name) (with_length label)) in
    ap (take (length octets - length label - 1)) is ∙ take_at (octets_of name) (with_length label) (length octets - length label - 1) (sym long)

pub mask_more : (mask bits tag : ℕ) (octets : List ℕ) (name : Labels) (label : List ℕ) (rest : Labels) → bits ≡ bits_of tag → tag ≡ fold tag_with 0 octets → octets ≡ octets_of name → name ≡ label ∷ rest
    → mask_with (bit_or mask bits) rest ≡ mask_with mask name
mask_more mask bits tag octets name label rest b t o is =
    ap (λ (n : ℕ). mask_with (bit_or mask n) rest) (b ∙ ap (λ n. bits_of n) (t ∙ ap (λ (x : List ℕ). fold tag_with 0 x) (o ∙ ap octets_of is))) ∙ sym (ap (λ (n : Labels). mask_with mask n) is)

pub mask_last : (mask bits tag : ℕ) (octets : List ℕ) (name : Labels) → bits ≡ bits_of tag → tag ≡ fold tag_with 0 octets → octets ≡ octets_of name → name ≡ [] → bit_or mask bits ≡ mask_with mask name
mask_last mask bits tag octets name b t o is =
    ap (λ (n : ℕ). bit_or mask n) (b ∙ ap (λ n. bits_of n) (t ∙ ap (λ (x : List ℕ). fold tag_with 0 x) (o ∙ ap octets_of is))) ∙ sym (ap (λ (n : Labels). mask_with mask n) is)
