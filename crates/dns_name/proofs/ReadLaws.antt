-- Names as text: only what stands for a name is read as it.
use Rattle.std.proofs.Common.{◌≡◌, ◌≢◌, ◌⊎◌, ℕ, zero, suc, ◌+◌, ◌-◌, ◌<◌, ◌≤◌, List, [], ◌∷◌, ◌++◌, length, map, take, drop, get_or, Option, Some, None, Result, Ok, Err, refl, sym, ap, subst, ◌∙◌, append_assoc, arith, length-append, inl, inr}
use Rattle.std.proofs.lemmas.Bool.{eqb-true, cases_Bool}
use Rattle.std.proofs.lemmas.List.{append-nil, length-map, take-append-drop}
use Rattle.std.proofs.lemmas.Bool.Decides.{nat_tests}
use Rattle.std.proofs.lemmas.Slice.Eq.{bytes_eq-Decides}
use Rattle.std.specs.Prelude.{◌==◌, nat_lt, IfOk, IfErr}
use Rattle.std.specs.Str.{bytes_eq}
use Rattle.std.specs.Char.{to_ascii_lowercase, is_ascii_graphic}
use Rattle.std.specs.List.{concat, join_with_byte}
use Rattle.dns_name.specs.declared.text.Atom.{Atom}
use Rattle.dns_name.specs.declared.text.Atom.TheVariants.{Dot, Octet}
use Rattle.dns_name.specs.declared.fault.NameFault.{NameFault}
use Rattle.dns_name.specs.declared.fault.NameFault.TheVariants.{BadEscape, NoMemory}
use Rattle.dns_name.specs.declared.limits.TheConstants.{MAX_LABEL_OCTETS, MAX_NAME_OCTETS}
use Rattle.dns_name.specs.Labels.{Labels, IsName, wire_len_with}
use Rattle.dns_name.specs.Making.{Gives}
use Rattle.dns_name.specs.Octets.{lower_label}
use Rattle.dns_name.proofs.OctetLaws.{no_labels, stands_push}
use Rattle.dns_name.specs.Results.{or_fault}
use Rattle.dns_name.specs.ResultLaws.{bound_ok, or_fault-ok}
use Rattle.dns_name.specs.Reading.{ReadsWhatStands, escape_in, octet_of, atom_at, after_atom, labels_at_end, read, name_in}
use Rattle.dns_name.specs.Text.{IsOctetText, itself, quoted, numbered, EachPair, IsLabelText, IsNameText, HasRoom}
use Rattle.dns_name.proofs.MakingLaws.{memory_alone}
use Rattle.dns_name.specs.TextLaws.{graphic_from, escape_found, IsLastDot, what_stands_is_read}

-- what an atom is written as
abbrev pub IsAtomText : List ℕ → Atom → Type 0
IsAtomText text Dot = text ≡ 46 ∷ []
IsAtomText text (Octet b) = IsOctetText text b

-- what is found at the front of a text is written there
abbrev pub IsFound : List ℕ → Option (Atom × ℕ) → Type 0
IsFound text None = Unit {0}
IsFound text (Some found) = IsAtomText (take found.1 text) found.0 × (0 < found.1)

found_escape : (text : List ℕ) → IsFound (92 ∷ text) (octet_of (escape_in text))
found_escape text =
    escape_found (λ front found. IsFound (92 ∷ front) (octet_of found)) (λ front. tt) (λ x rest graphic digit. (quoted graphic digit refl, omega arith))
    (λ x y z rest dx dy dz small. (numbered x y z dx dy dz refl small refl, omega arith)) text

pub found_atom : (text : List ℕ) → IsFound text (atom_at text)
found_atom [] = tt
found_atom (c ∷ text) =
    elim (cases_Bool (c == 46)) [
      | inl dot ↦ rw dot (ap (λ (n : ℕ). n ∷ []) (eqb-true c 46 dot), omega arith)
      | inr plain ↦ elim (cases_Bool (c == 92)) [
        | inl slash ↦ rw (plain, slash) (rw (eqb-true c 92 slash) (found_escape text))
        | inr other ↦ elim (cases_Bool (is_ascii_graphic c)) [
          | inl graphic ↦ rw (plain, other, graphic) (itself (graphic_from c graphic) (λ e. grind (arith, nat_tests)) (λ e. grind (arith, nat_tests)) refl, omega arith)
          | inr bad ↦ rw (plain, other, bad) tt
        ]
      ]
    ]

-- what a step that did not fail did
abbrev pub IsNext : Labels → List ℕ → Atom → Labels × List ℕ → Type 0
IsNext before part Dot next = (0 < length part) × (next ≡ (before ++ map to_ascii_lowercase part ∷ [], []))
IsNext before part (Octet b) next = (length part ≢ MAX_LABEL_OCTETS) × (wire_len_with before (length part + 1) ≤ MAX_NAME_OCTETS) × (next ≡ (before, part ++ b ∷ []))

pub stepped_ok : (before : Labels) (part : List ℕ) (atom : Atom) (next : Labels × List ℕ) → after_atom before part atom ≡ Ok next → IsNext before part atom next
stepped_ok before part Dot next e =
    elim (cases_Bool (length part == 0)) [
      | inl none ↦ absurd (let bad = rw none at e in cc)
      | inr some ↦ let good = rw some at e in (grind (arith, nat_tests), cc)
    ]
stepped_ok before part (Octet b) next e =
    elim (cases_Bool (length part == MAX_LABEL_OCTETS)) [
      | inl full ↦ absurd (let bad = rw full at e in cc)
      | inr few ↦ elim (cases_Bool (nat_lt MAX_NAME_OCTETS (wire_len_with before (length part + 1)))) [
        | inl long ↦ absurd (let bad = rw (few, long) at e in cc)
        | inr short ↦ let good = rw (few, short) at e in (λ full. grind (arith, nat_tests), grind (arith, nat_tests), cc)
      ]
    ]

-- what has been read: the labels before, and the octets of the label that is being read
pub record Progress (before : Labels) (part : List ℕ) : Type 0 where
  pub name : IsName before
  pub octets : (i : ℕ) → get_or part i 0 < 256
  pub few : length part ≤ MAX_LABEL_OCTETS
  pub room : HasRoom before part

one_more_octet : (part : List ℕ) (b : ℕ) → ((i : ℕ) → get_or part i 0 < 256) → b < 256 → (i : ℕ) → get_or (part ++ b ∷ []) i 0 < 256
one_more_octet [] b each small zero = small
one_more_octet [] b each small (suc i) = omega arith
one_more_octet (c ∷ part) b each small zero = each 0
one_more_octet (c ∷ part) b each small (suc i) = one_more_octet part b (λ k. each (suc k)) small i

octet_small : (text : List ℕ) (b : ℕ) → IsOctetText text b → b < 256
octet_small text b (itself graphic dot slash e) = omega (arith, graphic.1)
octet_small text b (quoted graphic digit e) = omega (arith, graphic.1)
octet_small text b (numbered x y z dx dy dz is small e) = small

one_more_label : (before : Labels) (part : List ℕ) → Progress before part → 0 < length part → IsName (before ++ map to_ascii_lowercase part ∷ [])
one_more_label before part p some =
    (stands_push _ before (map to_ascii_lowercase part) (record { octets_are = refl; name = p.name }) (lower_label part p.octets some p.few) (omega (arith, p.room some, length-map part to_ascii_lowercase))).name

pub next_progress : (before : Labels) (part text : List ℕ) (atom : Atom) (next : Labels × List ℕ) → IsAtomText text atom → IsNext before part atom next → Progress before part → Progress next.0 next.1
next_progress before part text Dot next stands done p =
    rw done.1 (record { name = one_more_label before part p done.0; octets = λ i. omega arith; few = omega arith; room = λ some. absurd (omega arith) })
next_progress before part text (Octet b) next stands done p =
    let few : length part < MAX_LABEL_OCTETS = omega (arith, p.few, done.0) in
    rw done.2 (record {
      name = p.name;
      octets = one_more_octet part b p.octets (octet_small text b stands);
      few = omega (arith, length-append part (b ∷ []));
      room = λ some. omega (arith, done.1, length-append part (b ∷ []));
    })

-- the rest of a text ends the label that is being read and holds more labels
record Reads (part text : List ℕ) (labels : Labels) : Type 0 where
  pieces : List (List ℕ)
  octets : List ℕ
  each : EachPair IsOctetText pieces octets
  texts : List (List ℕ)
  more : Labels
  rest : EachPair IsLabelText texts more
  tail : List ℕ
  last : IsLastDot tail
  whole : labels ≡ map to_ascii_lowercase (part ++ octets) ∷ more
  text_is : text ≡ join_with_byte 46 (concat pieces ∷ texts) ++ tail

-- nothing is left to read after the last dot
record IsOver (part text : List ℕ) (labels : Labels) : Type 0 where
  no_part : part ≡ []
  no_text : text ≡ []
  no_labels : labels ≡ []

abbrev IsRest : List ℕ → List ℕ → Labels → Type 0
IsRest part text labels = IsOver part text labels ⊎ Reads part text labels

join-append : (front text : List ℕ) (texts : List (List ℕ)) → join_with_byte 46 ((front ++ text) ∷ texts) ≡ front ++ join_with_byte 46 (text ∷ texts)
join-append front text [] = refl
join-append front text (next ∷ texts) = append_assoc front text (46 ∷ join_with_byte 46 (next ∷ texts))

octet_rest : (part piece : List ℕ) (b : ℕ) (text : List ℕ) (labels : Labels) → IsOctetText piece b → IsRest (part ++ b ∷ []) text labels → IsRest part (piece ++ text) labels
octet_rest part piece b text labels stands (inl over) = absurd (let e = ap length over.no_part in omega (arith, e, length-append part (b ∷ [])))
octet_rest part piece b text labels stands (inr r) = inr (record {
  pieces = piece ∷ r.pieces;
  octets = b ∷ r.octets;
  each = (stands, r.each);
  texts = r.texts;
  more = r.more;
  rest = r.rest;
  tail = r.tail;
  last = r.last;
  whole = r.whole ∙ ap (λ (x : List ℕ). map to_ascii_lowercase x ∷ r.more) (append_assoc part (b ∷ []) r.octets);
  text_is = ap (λ (x : List ℕ). piece ++ x) r.text_is
      ∙ sym (append_assoc piece (join_with_byte 46 (concat r.pieces ∷ r.texts)) r.tail)
      ∙ ap (λ (x : List ℕ). x ++ r.tail) (sym (join-append piece (concat r.pieces) r.texts));
})

dot_rest : (part text : List ℕ) (labels : Labels) → IsRest [] text labels → IsRest part (46 ∷ text) (map to_ascii_lowercase part ∷ labels)
dot_rest part text labels (inl over) = inr (record {
  pieces = [];
  octets = [];
  each = tt;
  texts = [];
  more = [];
  rest = tt;
  tail = 46 ∷ [];
  last = inr refl;
  whole = rw over.no_labels (ap (λ (x : List ℕ). map to_ascii_lowercase x ∷ []) (sym (append-nil part)));
  text_is = ap (λ (x : List ℕ). 46 ∷ x) over.no_text;
})
dot_rest part text labels (inr r) =
    let label : IsLabelText (concat r.pieces) (map to_ascii_lowercase r.octets) = record { pieces = r.pieces; octets = r.octets; joined = refl; each = r.each; lower = refl } in
    inr (record {
      pieces = [];
      octets = [];
      each = tt;
      texts = concat r.pieces ∷ r.texts;
      more = map to_ascii_lowercase r.octets ∷ r.more;
      rest = (label, r.rest);
      tail = r.tail;
      last = r.last;
      whole = rw r.whole (ap (λ (x : List ℕ). map to_ascii_lowercase x ∷ map to_ascii_lowercase r.octets ∷ r.more) (sym (append-nil part)));
      text_is = ap (λ (x : List ℕ). 46 ∷ x) r.text_is;
    })

last_rest : (part : List ℕ) → IsRest part [] (map to_ascii_lowercase part ∷ [])
last_rest part = inr (record {
  pieces = [];
  octets = [];
  each = tt;
  texts = [];
  more = [];
  rest = tt;
  tail = [];
  last = inl refl;
  whole = ap (λ (x : List ℕ). map to_ascii_lowercase x ∷ []) (sym (append-nil part));
  text_is = refl;
})

-- a name that was read: the labels before and those of the rest
record IsReadAs (before : Labels) (part text : List ℕ) (labels : Labels) : Type 0 where
  name : IsName labels
  tail : Labels
  whole : labels ≡ before ++ tail
  rest : IsRest part text tail

read_as_end : (before : Labels) (part : List ℕ) (labels : Labels) → Progress before part → labels_at_end before part ≡ Ok labels → IsReadAs before part [] labels
read_as_end [] [] labels p e = absurd cc
read_as_end (label ∷ before) [] labels p e =
    let same : label ∷ before ≡ labels = cc in
    record { name = subst IsName same p.name; tail = []; whole = sym same ∙ sym (append-nil (label ∷ before)); rest = inl (record { no_part = refl; no_text = refl; no_labels = refl }) }
read_as_end before (b ∷ part) labels p e =
    let same : before ++ map to_ascii_lowercase (b ∷ part) ∷ [] ≡ labels = cc in
    record { name = subst IsName same (one_more_label before (b ∷ part) p (omega arith)); tail = map to_ascii_lowercase (b ∷ part) ∷ []; whole = sym same; rest = last_rest (b ∷ part) }

read_as_atom : (before : Labels) (part piece text : List ℕ) (atom : Atom) (next : Labels × List ℕ) (labels : Labels) → IsAtomText piece atom → IsNext before part atom next → IsReadAs next.0 next.1 text labels → IsReadAs before part (piece ++ text) labels
read_as_atom before part piece text Dot next labels stands done r =
    let first : next.0 ≡ before ++ map to_ascii_lowercase part ∷ [] = ap (λ (n : Labels × List ℕ). n.0) done.1 in
    let second : next.1 ≡ [] = ap (λ (n : Labels × List ℕ). n.1) done.1 in
    record {
      name = r.name;
      tail = map to_ascii_lowercase part ∷ r.tail;
      whole = r.whole ∙ ap (λ (x : Labels). x ++ r.tail) first ∙ append_assoc before (map to_ascii_lowercase part ∷ []) r.tail;
      rest = rw stands (dot_rest part text r.tail (subst (λ (x : List ℕ). IsRest x text r.tail) second r.rest));
    }
read_as_atom before part piece text (Octet b) next labels stands done r =
    let first : next.0 ≡ before = ap (λ (n : Labels × List ℕ). n.0) done.2 in
    let second : next.1 ≡ part ++ b ∷ [] = ap (λ (n : Labels × List ℕ). n.1) done.2 in
    record {
      name = r.name;
      tail = r.tail;
      whole = r.whole ∙ ap (λ (x : Labels). x ++ r.tail) first;
      rest = octet_rest part piece b text r.tail stands (subst (λ (x : List ℕ). IsRest x text r.tail) second r.rest);
    }

pub skip_first : (c k : ℕ) (text : List ℕ) → 0 < k → drop (k - 1) text ≡ drop k (c ∷ text)
skip_first c zero text some = absurd (omega arith)
skip_first c (suc k) text some = let one : suc k - 1 ≡ k = omega arith in rw one refl

read_as : (before : Labels) (part : List ℕ) (skip : ℕ) (text : List ℕ) (labels : Labels) → Progress before part → read before part skip text ≡ Ok labels → IsReadAs before part (drop skip text) labels
unfolding read
read_as before part zero [] labels p e = read_as_end before part labels p e
read_as before part (suc skip) [] labels p e = read_as_end before part labels p e
read_as before part (suc skip) (c ∷ text) labels p e = read_as before part skip text labels p e
read_as before part zero (c ∷ text) labels p e =
    let one = bound_ok (or_fault BadEscape (atom_at (c ∷ text))) _ labels e in
    let two = bound_ok (after_atom before part one.0.0) _ labels one.1.1 in
    let found : IsFound (c ∷ text) (Some one.0) = subst (IsFound (c ∷ text)) (or_fault-ok BadEscape (atom_at (c ∷ text)) one.0 one.1.0) (found_atom (c ∷ text)) in
    let done = stepped_ok before part one.0.0 two.0 two.1.0 in
    let more = read_as two.0.0 two.0.1 (one.0.1 - 1) text labels (next_progress before part (take one.0.1 (c ∷ text)) one.0.0 two.0 found.0 done p) two.1.1 in
    let here = read_as_atom before part (take one.0.1 (c ∷ text)) (drop one.0.1 (c ∷ text)) one.0.0 two.0 labels found.0 done (rw (← skip_first c one.0.1 text found.1) more) in
    subst (λ (x : List ℕ). IsReadAs before part x labels) (take-append-drop one.0.1 (c ∷ text)) here

pub nothing_read : Progress [] []
nothing_read = record { name = no_labels.name; octets = λ i. omega arith; few = omega arith; room = λ some. absurd (omega arith) }

read_nothing : (labels : Labels) → read [] [] 0 [] ≡ Ok labels → ⊥
unfolding read
read_nothing labels e = cc

name_of_rest : (text : List ℕ) (labels : Labels) → IsName labels → read [] [] 0 text ≡ Ok labels → IsRest [] text labels → IsNameText text labels
name_of_rest text labels name e (inl over) = absurd (read_nothing labels (subst (λ (x : List ℕ). read [] [] 0 x ≡ Ok labels) over.no_text e))
name_of_rest text labels name e (inr r) =
    let label : IsLabelText (concat r.pieces) (map to_ascii_lowercase r.octets) = record { pieces = r.pieces; octets = r.octets; joined = refl; each = r.each; lower = refl } in
    record {
      texts = concat r.pieces ∷ r.texts;
      dots = elim r.last [
        | inl none ↦ inr (r.text_is ∙ ap (λ (x : List ℕ). join_with_byte 46 (concat r.pieces ∷ r.texts) ++ x) none ∙ append-nil (join_with_byte 46 (concat r.pieces ∷ r.texts)), λ root. absurd (let both = sym r.whole ∙ root in cc))
        | inr dot ↦ inl (r.text_is ∙ ap (λ (x : List ℕ). join_with_byte 46 (concat r.pieces ∷ r.texts) ++ x) dot)
      ];
      each = subst (EachPair IsLabelText (concat r.pieces ∷ r.texts)) (sym r.whole) (label, r.rest);
      name = name;
    }

pub what_is_read_stands : (text : List ℕ) (labels : Labels) → name_in text ≡ Ok labels → IsNameText text labels
unfolding name_in
what_is_read_stands text labels e =
    elim (cases_Bool (bytes_eq text (46 ∷ []))) [
      | inl dot ↦
          let is : text ≡ 46 ∷ [] = (bytes_eq-Decides text (46 ∷ [])).0 dot in
          let root : [] ≡ labels = let good = rw dot at e in cc in
          subst (λ (x : Labels). IsNameText text x) root (record { texts = []; dots = inl is; each = tt; name = no_labels.name })
      | inr other ↦
          let reads : read [] [] 0 text ≡ Ok labels = rw other at e in
          let r = read_as [] [] 0 text labels nothing_read reads in
          name_of_rest text labels r.name reads (subst (IsRest [] text) (sym r.whole) r.rest)
    ]

pub reads_what_stands : ReadsWhatStands
reads_what_stands text labels = (what_is_read_stands text labels, what_stands_is_read text labels)

pub gives_named : (r : Result Labels NameFault) (text : List ℕ) → Gives r (name_in text) → IfOk r (λ n. IsNameText text n)
gives_named (Ok n) text h = what_is_read_stands text n h
gives_named (Err e) text h = tt

pub gives_no_name : (r : Result Labels NameFault) (text : List ℕ) → Gives r (name_in text) → IfErr r (λ e. (labels : Labels) → IsNameText text labels → e ≡ NoMemory)
gives_no_name (Ok n) text h = tt
gives_no_name (Err e) text h = λ labels stands. memory_alone e (name_in text) labels h (what_stands_is_read text labels stands)
