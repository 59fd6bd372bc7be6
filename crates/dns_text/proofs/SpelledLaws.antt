-- Strings and the octets that spell them.
use Rattle.std.proofs.Common.{◌≡◌, ◌≢◌, ℕ, ◌<◌, ◌≤◌, Bool, true, false, List, [], ◌∷◌, ◌++◌, length, get_or, take, drop, refl, sym, ap, subst, ◌∙◌, arith, ne_eqb}
use Rattle.std.specs.Prelude.{◌==◌, ◌↔◌, IsTrue, nat_eq, not}
use Rattle.std.specs.Cmp.Lexicographic.{pointwise}
use Rattle.std.specs.List.{AllByRecursion}
use Rattle.std.proofs.lemmas.Bool.{false≢true}
use Rattle.std.proofs.lemmas.Bool.Decides.{nat_tests}
use Rattle.std.proofs.lemmas.List.{append-nil, drop_at, length-take, take-append-drop}
use Rattle.std.proofs.lemmas.Slice.Eq.{bytes_eq-Decides, slice_eq-Decides}
use Rattle.dns_name.specs.Labels.{cut, labels_in, spelled, with_length}
use Rattle.dns_name.specs.ListLaws.{all_push, all_split, all_weaker, octets_all}
use Rattle.dns_name.specs.Octets.{labels_in-spelled, spelled-append}
use Rattle.dns_text.specs.String.{AreOctets}
use Rattle.dns_text.specs.Strings.{AreStrings, BeginsWithString, IsString, SpellStrings, strings_of}

-- the same as a function
abbrev Spell : List ℕ → Type 0
Spell octets = SpellStrings octets

-- ---- what strings spell

-- the strings of octets that strings spell are these
pub strings_of-spelled : (strings : List (List ℕ)) (octets : List ℕ) → octets ≡ spelled strings → strings_of octets ≡ strings
strings_of-spelled strings octets is = ap labels_in is ∙ labels_in-spelled strings

pub spell-spelled : (strings : List (List ℕ)) (octets : List ℕ) → octets ≡ spelled strings → SpellStrings octets
spell-spelled strings octets is = ap (λ (x : List (List ℕ)). spelled x) (strings_of-spelled strings octets is) ∙ sym is

pub no_strings : strings_of [] ≡ []
unfolding labels_in cut
no_strings = refl

-- octets that are not empty spell a string at least
pub some_spelled : (octets : List ℕ) (strings : List (List ℕ)) → octets ≡ spelled strings → length octets ≢ 0 → 0 < length strings
some_spelled octets [] is some = absurd (some (ap length is))
some_spelled octets (s ∷ strings) is some = omega arith

-- ---- each string

each_of : (strings : List (List ℕ)) → AreOctets (spelled strings) → AllByRecursion IsString strings
each_of [] h = tt
each_of (s ∷ strings) h =
    let parts = all_split (λ b. b < 256) (with_length s) (spelled strings) h in
    (record { each = parts.0.1; few = parts.0.0 }, each_of strings parts.1)

-- the length before a string is an octet, so no string is too long
pub are_strings : (octets : List ℕ) → ((i : ℕ) → get_or octets i 0 < 256) → SpellStrings octets → AreStrings octets
are_strings octets fits spell = record { spell = spell; each = each_of (strings_of octets) (subst AreOctets (sym spell) (octets_all octets fits)) }

pub each_few : (strings : List (List ℕ)) → AllByRecursion IsString strings → AllByRecursion (λ string. length string < 256) strings
each_few strings each = all_weaker IsString (λ string. length string < 256) (λ _ h. h.few) strings each

-- the strings of octets that are not empty have the size of TXT data
pub sized_of : (octets : List ℕ) (strings : List (List ℕ)) → AreStrings octets → strings ≡ strings_of octets → 0 < length octets → (0 < length strings) × AllByRecursion (λ string. length string < 256) strings
sized_of octets strings are is some = rw is (some_spelled octets (strings_of octets) (sym are.spell) (λ none. absurd (omega arith)), each_few (strings_of octets) are.each)

-- strings whose octets are not empty have the size of TXT data
pub sized_if_some : (octets : List ℕ) (strings : List (List ℕ)) → octets ≡ spelled strings → AllByRecursion IsString strings → IsTrue (not (length octets == 0)) ↔ ((0 < length strings) × AllByRecursion (λ string. length string < 256) strings)
sized_if_some octets [] is each = (λ holds. absurd (let none : length octets ≡ 0 = ap length is in grind (arith, nat_tests)), λ sized. absurd (omega (arith, sized.0)))
sized_if_some octets (s ∷ strings) is each =
    let some : length octets ≢ 0 = λ none. absurd (omega (arith, ap length is)) in
    (λ holds. (omega arith, each_few (s ∷ strings) each), λ sized. rw (ne_eqb (length octets) 0 some) refl)

-- ---- the first string

pub first : (n : ℕ) (octets : List ℕ) → SpellStrings (n ∷ octets) → (n ≤ length octets) × BeginsWithString (n ∷ octets) (take n octets) (drop n octets)
unfolding labels_in cut
first n octets h =
    let strings : List (List ℕ) = cut (length octets) (drop n octets) in
    let e : length (take n octets) ∷ (take n octets ++ spelled strings) ≡ n ∷ octets = h in
    let len : length (take n octets) ≡ n = cc in
    let parts : take n octets ++ spelled strings ≡ octets = cc in
    let rest : drop n octets ≡ spelled strings = ap (drop n) (sym parts) ∙ drop_at (take n octets) (spelled strings) n len in
    let in' : labels_in (drop n octets) ≡ strings = ap labels_in rest ∙ labels_in-spelled strings in (
      omega (arith, length-take n octets),
      record {
        strings = ap (λ (x : List (List ℕ)). take n octets ∷ x) (sym in');
        spell = ap (λ (x : List (List ℕ)). spelled x) in' ∙ sym rest;
      },
    )

-- octets spell strings if those after the first string do
pub first_more : (n : ℕ) (octets : List ℕ) → n ≤ length octets → SpellStrings (drop n octets) → SpellStrings (n ∷ octets)
first_more n octets enough h =
    let strings : List (List ℕ) = strings_of (drop n octets) in
    let len : length (take n octets) ≡ n = omega (arith, length-take n octets) in
    let rest : octets ≡ take n octets ++ spelled strings = sym (take-append-drop n octets) ∙ ap (λ (x : List ℕ). take n octets ++ x) (sym h) in
    spell-spelled (take n octets ∷ strings) (n ∷ octets) (ap (λ (x : List ℕ). n ∷ x) rest ∙ ap (λ (k : ℕ). k ∷ (take n octets ++ spelled strings)) (sym len))

-- what is behind the first string spells strings exactly if the whole does
pub spell_rest : (rest behind after octets : List ℕ) (n : ℕ) → rest ≡ n ∷ behind → after ≡ drop n behind → n ≤ length behind → SpellStrings rest ↔ SpellStrings octets → SpellStrings after ↔ SpellStrings octets
spell_rest rest behind after octets n is there enough h = (
  λ holds. h.0 (subst Spell (sym is) (first_more n behind enough (subst Spell there holds))),
  λ holds. subst Spell (sym there) (first n behind (subst Spell is (h.1 holds))).1.spell,
)

-- octets whose first string is cut off spell none
pub cut_off : (rest behind octets : List ℕ) (n : ℕ) → rest ≡ n ∷ behind → length behind < n → SpellStrings rest ↔ SpellStrings octets → SpellStrings octets → ⊥
cut_off rest behind octets n is few h holds = let enough = (first n behind (subst Spell is (h.1 holds))).0 in omega arith

pub spell_none : (rest : List ℕ) → length rest ≡ 0 → SpellStrings rest
spell_none [] none = ap (λ (x : List (List ℕ)). spelled x) no_strings
spell_none (b ∷ rest) none = absurd (omega arith)

-- ---- one more string at the end

pub pushed : (octets string more : List ℕ) → SpellStrings octets → more ≡ octets ++ with_length string → more ≡ spelled (strings_of octets ++ string ∷ [])
pushed octets string more h is =
    is
    ∙ ap (λ (x : List ℕ). x ++ with_length string) (sym h)
    ∙ ap (λ (x : List ℕ). spelled (strings_of octets) ++ x) (sym (append-nil (with_length string)))
    ∙ sym (spelled-append (strings_of octets) (string ∷ []))

pub pushed_are : (octets string more : List ℕ) → AreStrings octets → IsString string → more ≡ octets ++ with_length string → AreStrings more
pushed_are octets string more h one is =
    let so = pushed octets string more h.spell is in
    record {
      spell = spell-spelled _ more so;
      each = rw (strings_of-spelled _ more so) (all_push IsString (strings_of octets) string h.each one);
    }

pub none_are : AreStrings []
none_are = record { spell = ap (λ (x : List (List ℕ)). spelled x) no_strings; each = rw no_strings tt }

-- ---- equality

agree : (x y : Bool) → (x ≡ true → y ≡ true) → (y ≡ true → x ≡ true) → x ≡ y
agree true true f g = refl
agree true false f g = absurd (false≢true (f refl))
agree false true f g = absurd (false≢true (g refl))
agree false false f g = refl

-- strings are equal exactly if their octets are
pub spelled_eq : (a b : List (List ℕ)) → pointwise nat_eq (spelled a) (spelled b) ≡ pointwise (pointwise nat_eq) a b
spelled_eq a b =
    let octets = bytes_eq-Decides (spelled a) (spelled b) in
    let strings = slice_eq-Decides bytes_eq-Decides a b _ refl in
    agree _ _ (λ e. strings.1 (sym (labels_in-spelled a) ∙ ap labels_in (octets.0 e) ∙ labels_in-spelled b)) (λ e. octets.1 (ap (λ (x : List (List ℕ)). spelled x) (strings.0 e)))
