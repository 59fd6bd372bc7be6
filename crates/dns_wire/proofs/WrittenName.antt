-- A name that is written at a place of a message's front, in whatever case, is there.
use Rattle.std.proofs.Common.{◌≡◌, ℕ, ◌+◌, ◌<◌, ◌≤◌, ltb, List, [], ◌∷◌, ◌++◌, length, take, drop, get_or, map, Some, refl, sym, ap, subst, ◌∙◌, append_assoc, inl, inr, arith, length-append}
use Rattle.std.specs.Prelude.{slice_get}
use Rattle.std.specs.Char.{to_ascii_lowercase}
use Rattle.std.specs.List.{AllByRecursion}
use Rattle.std.proofs.lemmas.Bool.{cases_Bool, lt-ltb, ne_eqb, ltb-true, ltb-false}
use Rattle.std.proofs.lemmas.List.{length-map, length-drop, take-map, drop-map, take_at, drop_at, take-append-le, drop-append-le, drop-drop, get_or-drop}
use Rattle.std.proofs.lemmas.Option.{slice_get-get_or}
use Rattle.std.proofs.lemmas.Str.Ascii.{lowercase_is}
use Rattle.dns_name.specs.Labels.{Labels, IsLowerOctet, IsLabel, IsName, spelled, with_length}
use Rattle.dns_wire.specs.declared.read.place.Next.TheVariants.{Finish, Label}
use Rattle.dns_wire.specs.Read.Place.{next_at, label_at}
use Rattle.dns_wire.specs.Read.Name.{NameAt, finish, label, SpelledIn}
use Rattle.dns_wire.specs.Write.Name.{name_octets}

-- ---- octets at a place

-- These octets are at this place of a message.
abbrev pub StandsAt : List ℕ → ℕ → List ℕ → Type 0
StandsAt m at octets = (rest : List ℕ) × (drop at m ≡ octets ++ rest)

pub stands_within : (m : List ℕ) (at : ℕ) (octets : List ℕ) → 0 < length octets → StandsAt m at octets → at + length octets ≤ length m
stands_within m at octets some h = omega (arith, ap length h.1, length-append octets h.0, length-drop at m)

-- the first of two parts, and the second
pub stands_first : (m : List ℕ) (at : ℕ) (a b : List ℕ) → StandsAt m at (a ++ b) → StandsAt m at a
stands_first m at a b h = (b ++ h.0, h.1 ∙ append_assoc a b h.0)

pub stands_second : (m : List ℕ) (at : ℕ) (a b : List ℕ) → StandsAt m at (a ++ b) → StandsAt m (at + length a) b
stands_second m at a b h = (h.0, sym (drop-drop (length a) at m) ∙ ap (drop (length a)) (h.1 ∙ append_assoc a b h.0) ∙ drop_at a (b ++ h.0) (length a) refl)

pub octet_at : (m : List ℕ) (at b : ℕ) (more : List ℕ) → StandsAt m at (b ∷ more) → slice_get m at ≡ Some b
octet_at m at b more h =
    let within = stands_within m at (b ∷ more) (omega arith) h in
    let none : at + 0 ≡ at = omega arith in
    let read : get_or m at b ≡ b = ap (λ (i : ℕ). get_or m i b) (sym none) ∙ sym (get_or-drop at m 0 b) ∙ ap (λ (x : List ℕ). get_or x 0 b) h.1 in
    slice_get-get_or m at b (omega (arith, within)) ∙ ap (λ (x : ℕ). Some x) read

-- ---- case

-- An octet that is below the letters in lower case is that octet.
below_letters : (b n : ℕ) → n < 65 → to_ascii_lowercase b ≡ n → b ≡ n
below_letters b n few e =
    let is = lowercase_is b in
    elim (cases_Bool (ltb b 65)) [
      | inl below ↦ sym (is.1 (ltb-true b 65 below)) ∙ e
      | inr above ↦ elim (cases_Bool (ltb 90 b)) [
        | inl past ↦ sym (is.2 (ltb-true 90 b past)) ∙ e
        | inr letter ↦ let more : 65 ≤ b = ltb-false b 65 above in let less : b ≤ 90 = ltb-false 90 b letter in let moved = is.0 (more, less) in omega arith
      ]
    ]

lower_text : (text : List ℕ) → AllByRecursion IsLowerOctet text → map to_ascii_lowercase text ≡ text
lower_text [] each = refl
lower_text (b ∷ text) each = let one = each.0.lower in let more = lower_text text each.1 in cc

map-append : (a b : List ℕ) → map to_ascii_lowercase (a ++ b) ≡ map to_ascii_lowercase a ++ map to_ascii_lowercase b
map-append [] b = refl
map-append (x ∷ a) b = ap (λ (t : List ℕ). to_ascii_lowercase x ∷ t) (map-append a b)

-- The octets of a name are in lower case.
pub lower_name : (labels : Labels) → AllByRecursion IsLabel labels → map to_ascii_lowercase (name_octets labels) ≡ name_octets labels
lower_name [] each = refl
lower_name (l ∷ ls) each =
    let parts : name_octets (l ∷ ls) ≡ with_length l ++ name_octets ls = append_assoc (with_length l) (spelled ls) (0 ∷ []) in
    let few : to_ascii_lowercase (length l) ≡ length l = (lowercase_is (length l)).1 (omega (arith, each.0.no_more)) in
    let text : map to_ascii_lowercase l ≡ l = lower_text l each.0.octets in
    let tail = lower_name ls each.1 in
    ap (map to_ascii_lowercase) parts ∙ map-append (with_length l) (name_octets ls) ∙ (let both : map to_ascii_lowercase (with_length l) ≡ with_length l = cc in cc) ∙ sym parts

-- ---- names

finish_here : (m : List ℕ) (at : ℕ) (more : List ℕ) → StandsAt m at (0 ∷ more) → next_at m at ≡ Finish
finish_here m at more h = rw (octet_at m at 0 more h) refl

label_here : (m : List ℕ) (at n : ℕ) (more : List ℕ) → 0 < n → n < 64 → StandsAt m at (n ∷ more) → next_at m at ≡ Label n
label_here m at n more some few h = rw (octet_at m at n more h) (rw (ne_eqb n 0 (λ e. omega arith), lt-ltb n 64 few) refl)

pub name_written : (message m : List ℕ) (at run : ℕ) (labels : Labels) (written : List ℕ) → AllByRecursion IsLabel labels → map to_ascii_lowercase written ≡ name_octets labels → StandsAt m at written → NameAt message m at run (at + length written) labels
name_written message m at run [] [] each is h = absurd cc
name_written message m at run [] (b ∷ written) each is h =
    let zero_octet : to_ascii_lowercase b ≡ 0 = cc in
    let nothing : map to_ascii_lowercase written ≡ [] = cc in
    let end = ap length nothing in
    finish (finish_here m at written (subst (λ (x : ℕ). StandsAt m at (x ∷ written)) (below_letters b 0 (omega arith) zero_octet) h)) (omega (arith, length-map written to_ascii_lowercase))
name_written message m at run (l ∷ ls) [] each is h = absurd cc
name_written message m at run (l ∷ ls) (b ∷ written) each is h =
    let n : ℕ = length l in
    let parts : name_octets (l ∷ ls) ≡ n ∷ (l ++ name_octets ls) = append_assoc (with_length l) (spelled ls) (0 ∷ []) in
    let both : to_ascii_lowercase b ∷ map to_ascii_lowercase written ≡ n ∷ (l ++ name_octets ls) = is ∙ parts in
    let first : to_ascii_lowercase b ≡ n = cc in
    let more : map to_ascii_lowercase written ≡ l ++ name_octets ls = cc in
    let here : StandsAt m at (n ∷ written) = subst (λ (x : ℕ). StandsAt m at (x ∷ written)) (below_letters b n (omega (arith, each.0.no_more)) first) h in
    let text : map to_ascii_lowercase (take n written) ≡ l = sym (take-map to_ascii_lowercase n written) ∙ ap (take n) more ∙ take_at l (name_octets ls) n refl in
    let tail : map to_ascii_lowercase (drop n written) ≡ name_octets ls = sym (drop-map to_ascii_lowercase n written) ∙ ap (drop n) more ∙ drop_at l (name_octets ls) n refl in
    let long : length written ≡ n + length (name_octets ls) = omega (arith, ap length more, length-map written to_ascii_lowercase, length-append l (name_octets ls)) in
    let behind : StandsAt m (at + 1) written = stands_second m at (n ∷ []) written here in
    let label_is : label_at m at n ≡ l = ap (λ (x : List ℕ). map to_ascii_lowercase (take n x)) behind.1 ∙ ap (map to_ascii_lowercase) (take-append-le n written behind.0 (omega arith)) ∙ text in
    let within : at + length (n ∷ written) ≤ length m = stands_within m at (n ∷ written) (omega arith) here in
    let next : StandsAt m (at + 1 + n) (drop n written) = (behind.0, sym (drop-drop n (at + 1) m) ∙ ap (drop n) behind.1 ∙ drop-append-le n written behind.0 (omega arith)) in
    let rest = name_written message m (at + 1 + n) run ls (drop n written) each.1 tail next in
    let after : at + 1 + n + length (drop n written) ≡ at + length (b ∷ written) = omega (arith, length-drop n written) in
    subst (λ (x : List ℕ). NameAt message m at run (at + length (b ∷ written)) (x ∷ ls)) label_is
    (label (label_here m at n written each.0.no_less (omega (arith, each.0.no_more)) here) (omega arith) (subst (λ (e : ℕ). NameAt message m (at + 1 + n) run e ls) after rest))

-- a name whose octets are these in lower case
pub cased_name : (message m : List ℕ) (at : ℕ) (labels : Labels) (written : List ℕ) → IsName labels → map to_ascii_lowercase written ≡ name_octets labels → StandsAt m at written → SpelledIn message m at (at + length written) labels
cased_name message m at labels written name is h = record { stands = name_written message m at at labels written name.each is h; short = omega (arith, name.short) }

pub whole_name : (message m : List ℕ) (at : ℕ) (labels : Labels) → IsName labels → StandsAt m at (name_octets labels) → SpelledIn message m at (at + length (name_octets labels)) labels
whole_name message m at labels name h = cased_name message m at labels (name_octets labels) name (lower_name labels name.each) h
