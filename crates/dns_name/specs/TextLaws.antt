-- Names as text: a text that stands for a name is read as that name, and the text that is written stands for it. Lemmas, which proofs here and in
-- the crates above cite; no contract needs them.
use Rattle.std.proofs.Common.{◌≡◌, ◌≢◌, ◌⊎◌, ℕ, zero, suc, ◌+◌, ◌-◌, ◌/◌, ◌%◌, ◌<◌, ◌≤◌, Bool, true, false, cond, eqb, List, [], ◌∷◌, ◌++◌, length, map, drop, Option, Some, None, Ok, Err, refl, sym, ap, subst, ◌∙◌, append_assoc, arith, length-append, inl, inr}
use Rattle.std.proofs.lemmas.Bool.{eqb-true, ne_eqb, le-ltb, lt-ltb, ltb-true, cases_Bool, agree_below, agree_below_at, and_parts, not-true, false_from_ne_true}
use Rattle.std.proofs.lemmas.List.{append-nil, drop_at, length-map}
use Rattle.std.proofs.lemmas.Bool.Decides.{nat_tests}
use Rattle.std.proofs.lemmas.Slice.Eq.{bytes_eq-Decides}
use Rattle.std.specs.Prelude.{◌&&◌, not, ◌==◌, nat_lt}
use Rattle.std.specs.Str.{bytes_eq}
use Rattle.std.specs.Char.{to_ascii_lowercase, is_ascii_digit, is_ascii_graphic, IsAsciiDigit, IsAsciiGraphic}
use Rattle.std.specs.List.{AllByRecursion, flat_map, concat, join_with_byte}
use Rattle.dns_name.specs.declared.text.Atom.{Atom}
use Rattle.dns_name.specs.declared.text.Atom.TheVariants.{Dot, Octet}
use Rattle.dns_name.specs.declared.fault.NameFault.{NameFault}
use Rattle.dns_name.specs.declared.fault.NameFault.TheVariants.{BadEscape}
use Rattle.dns_name.specs.declared.limits.TheConstants.{MAX_LABEL_OCTETS, MAX_NAME_OCTETS}
use Rattle.dns_name.specs.Labels.{Labels, IsLabel, IsLowerOctet, IsName, spelled, wire_len, wire_len_with, with_length}
use Rattle.dns_name.specs.Octets.{spelled-append, length-spelled_push, lower_itself}
use Rattle.dns_name.specs.Reading.{decimal_in, escape_in, atom_at, after_atom, labels_at_end, read, name_in}
use Rattle.dns_name.specs.Text.{decimal, IsOctetText, itself, quoted, numbered, EachPair, IsLabelText, IsNameText, is_special, octet_text, label_text, text_of}

-- ---- one atom after another

-- skipping octets is reading the text after them
pub read-skip : (before : Labels) (part : List ℕ) (skip : ℕ) (text : List ℕ) → read before part skip text ≡ read before part 0 (drop skip text)
unfolding read
read-skip before part zero text = refl
read-skip before part (suc skip) [] = refl
read-skip before part (suc skip) (c ∷ text) = read-skip before part skip text

-- one dot or octet of a label is read, then the text after it
pub read_step : (before : Labels) (part text : List ℕ) (atom : Atom) (k : ℕ) (next : Labels × List ℕ) → 0 < length text → 0 < k → atom_at text ≡ Some (atom, k) → after_atom before part atom ≡ Ok next → read before part 0 text ≡ read next.0 next.1 0 (drop k text)
unfolding read
read_step before part [] atom k next some more here e = absurd (omega arith)
read_step before part (c ∷ text) atom zero next some more here e = absurd (omega arith)
read_step before part (c ∷ text) atom (suc k) next some more here e =
    rw (here, e) (let one : suc k - 1 ≡ k = omega arith in rw one (read-skip next.0 next.1 k text))

-- a dot or octet that does not fit is the fault of the text
pub read_fault : (before : Labels) (part text : List ℕ) (atom : Atom) (k : ℕ) (fault : NameFault) → 0 < length text → atom_at text ≡ Some (atom, k) → after_atom before part atom ≡ Err fault → read before part 0 text ≡ Err fault
unfolding read
read_fault before part [] atom k fault some here e = absurd (omega arith)
read_fault before part (c ∷ text) atom k fault some here e = rw (here, e) refl

-- a front that is neither a dot nor an octet of a label is a bad escape
pub read_bad : (before : Labels) (part text : List ℕ) → 0 < length text → atom_at text ≡ None → read before part 0 text ≡ Err BadEscape
unfolding read
read_bad before part [] some here = absurd (omega arith)
read_bad before part (c ∷ text) some here = rw here refl

-- at the end of the text the labels are complete
pub read_end : (before : Labels) (part text : List ℕ) → length text ≡ 0 → read before part 0 text ≡ labels_at_end before part
unfolding read
read_end before part [] e = refl
read_end before part (c ∷ text) e = absurd (omega arith)

-- ---- what stands for a name is read as it

-- a printable octet passes the test
pub graphic_true : (b : ℕ) → IsAsciiGraphic b → is_ascii_graphic b ≡ true
graphic_true b h = grind (arith, nat_tests)

-- a digit passes the test
pub digit_true : (b : ℕ) → IsAsciiDigit b → is_ascii_digit b ≡ true
digit_true b h = grind (arith, nat_tests)

-- an octet that passes the test is printable
pub graphic_from : (b : ℕ) → is_ascii_graphic b ≡ true → IsAsciiGraphic b
graphic_from b h = grind (arith, nat_tests)

-- an octet that passes the test is a digit
pub digit_from : (b : ℕ) → is_ascii_digit b ≡ true → IsAsciiDigit b
digit_from b h = grind (arith, nat_tests)

-- an octet that fails the test is no digit
pub digit_apart : (b : ℕ) → is_ascii_digit b ≡ false → ¬ IsAsciiDigit b
digit_apart b e h = let e' : is_ascii_digit b ≡ true = digit_true b h in cc

-- After a backslash there is nothing, a printable octet that is no digit, or three digits with their number. What holds in each case holds of what is found.
module _ (P : List ℕ → Option (ℕ × ℕ) → Type 0) (nothing : (text : List ℕ) → P text None) (printable : (x : ℕ) (text : List ℕ) → IsAsciiGraphic x → ¬ IsAsciiDigit x → P (x ∷ text) (Some (x, 2)))
    (digits : (x y z : ℕ) (text : List ℕ) → IsAsciiDigit x → IsAsciiDigit y → IsAsciiDigit z → decimal x y z < 256 → P (x ∷ y ∷ z ∷ text) (Some (decimal x y z, 4))) where
  number_found : (x : ℕ) (text : List ℕ) → IsAsciiDigit x → P (x ∷ text) (decimal_in x text)
  number_found x [] dx = nothing (x ∷ [])
  number_found x (y ∷ []) dx = nothing (x ∷ y ∷ [])
  number_found x (y ∷ z ∷ text) dx =
      elim (cases_Bool (is_ascii_digit y)) [
        | inr other ↦ rw other (nothing (x ∷ y ∷ z ∷ text))
        | inl dy ↦ elim (cases_Bool (is_ascii_digit z)) [
          | inr other ↦ rw (dy, other) (nothing (x ∷ y ∷ z ∷ text))
          | inl dz ↦ elim (cases_Bool (nat_lt (decimal x y z) 256)) [
            | inr other ↦ rw (dy, dz, other) (nothing (x ∷ y ∷ z ∷ text))
            | inl small ↦ rw (dy, dz, small) (digits x y z text dx (digit_from y dy) (digit_from z dz) (ltb-true _ _ small))
          ]
        ]
      ]

  pub escape_found : (text : List ℕ) → P text (escape_in text)
  escape_found [] = nothing []
  escape_found (x ∷ text) =
      elim (cases_Bool (is_ascii_digit x)) [
        | inl digit ↦ rw digit (number_found x text (digit_from x digit))
        | inr other ↦ elim (cases_Bool (is_ascii_graphic x)) [
          | inl graphic ↦ rw (other, graphic) (printable x text (graphic_from x graphic) (digit_apart x other))
          | inr bad ↦ rw (other, bad) (nothing (x ∷ text))
        ]
      ]

-- the text of an octet is read as that octet, whatever follows
pub atom_of_piece : (piece : List ℕ) (b : ℕ) (rest : List ℕ) → IsOctetText piece b → atom_at (piece ++ rest) ≡ Some (Octet b, length piece)
atom_of_piece piece b rest (itself graphic dot slash e) = rw e (rw (ne_eqb b 46 dot, ne_eqb b 92 slash, graphic_true b graphic) refl)
atom_of_piece piece b rest (quoted graphic digit e) = rw e (rw (false_from_ne_true (is_ascii_digit b) (λ d. digit (digit_from b d)), graphic_true b graphic) refl)
atom_of_piece piece b rest (numbered x y z dx dy dz is small e) =
    rw (e, is) (rw (digit_true x dx, digit_true y dy, digit_true z dz) (rw (lt-ltb (decimal x y z) 256 (rw (← is) small)) refl))

-- the text of an octet is not empty
pub length_piece : (piece : List ℕ) (b : ℕ) → IsOctetText piece b → 0 < length piece
length_piece piece b (itself graphic dot slash e) = omega (arith, ap length e)
length_piece piece b (quoted graphic digit e) = omega (arith, ap length e)
length_piece piece b (numbered x y z dx dy dz is small e) = omega (arith, ap length e)

octet_fits : (before : Labels) (part : List ℕ) (b : ℕ) → length part < MAX_LABEL_OCTETS → wire_len_with before (length part + 1) ≤ MAX_NAME_OCTETS → after_atom before part (Octet b) ≡ Ok (before, part ++ b ∷ [])
octet_fits before part b few room = rw (ne_eqb (length part) MAX_LABEL_OCTETS (λ e. omega arith), le-ltb MAX_NAME_OCTETS (wire_len_with before (length part + 1)) room) refl

read_piece : (before : Labels) (part piece : List ℕ) (b : ℕ) (rest : List ℕ) → IsOctetText piece b → length part < MAX_LABEL_OCTETS → wire_len_with before (length part + 1) ≤ MAX_NAME_OCTETS → read before part 0 (piece ++ rest) ≡ read before (part ++ b ∷ []) 0 rest
read_piece before part piece b rest stands few room =
    read_step before part (piece ++ rest) (Octet b) (length piece) (before, part ++ b ∷ []) (omega (arith, length_piece piece b stands, length-append piece rest)) (length_piece piece b stands) (atom_of_piece piece b rest stands) (octet_fits before part b few room)
    ∙ ap (read before (part ++ b ∷ []) 0) (drop_at piece rest (length piece) refl)

-- the texts of octets are read as those octets, if they fit
pub read_pieces : (before : Labels) (part : List ℕ) (pieces : List (List ℕ)) (octets rest : List ℕ) → EachPair IsOctetText pieces octets → length part + length octets ≤ MAX_LABEL_OCTETS → wire_len_with before (length part + length octets) ≤ MAX_NAME_OCTETS → read before part 0 (concat pieces ++ rest) ≡ read before (part ++ octets) 0 rest
read_pieces before part [] [] rest each few room = ap (λ (x : List ℕ). read before x 0 rest) (sym (append-nil part))
read_pieces before part [] (b ∷ octets) rest each few room = absurd each
read_pieces before part (piece ∷ pieces) [] rest each few room = absurd each
read_pieces before part (piece ∷ pieces) (b ∷ octets) rest each few room =
    ap (read before part 0) (append_assoc piece (concat pieces) rest)
    ∙ read_piece before part piece b (concat pieces ++ rest) each.0 (omega arith) (omega arith)
    ∙ read_pieces before (part ++ b ∷ []) pieces octets rest each.1 (omega (arith, length-append part (b ∷ []))) (omega (arith, length-append part (b ∷ [])))
    ∙ ap (λ (x : List ℕ). read before x 0 rest) (append_assoc part (b ∷ []) octets)

-- the octets of a label that is read, before their capitals become small
length_octets : (text label : List ℕ) (h : IsLabelText text label) → length h.octets ≡ length label
length_octets text label h = sym (ap length h.lower ∙ length-map h.octets to_ascii_lowercase)

read_octets : (before : Labels) (text label rest : List ℕ) (h : IsLabelText text label) → IsLabel label → wire_len_with before (length label) ≤ MAX_NAME_OCTETS → read before [] 0 (text ++ rest) ≡ read before h.octets 0 rest
read_octets before text label rest h one room =
    ap (λ (x : List ℕ). read before [] 0 (x ++ rest)) h.joined
    ∙ read_pieces before [] h.pieces h.octets rest h.each (omega (arith, one.no_more, length_octets text label h)) (omega (arith, length_octets text label h))

dot_ends : (before : Labels) (part : List ℕ) → 0 < length part → after_atom before part Dot ≡ Ok (before ++ map to_ascii_lowercase part ∷ [], [])
dot_ends before part some = rw (ne_eqb (length part) 0 (λ e. omega arith)) refl

-- the text of a label with a dot after it is read as that label
pub read_label_dot : (before : Labels) (text label rest : List ℕ) → IsLabelText text label → IsLabel label → wire_len_with before (length label) ≤ MAX_NAME_OCTETS → read before [] 0 (text ++ 46 ∷ rest) ≡ read (before ++ label ∷ []) [] 0 rest
read_label_dot before text label rest h one room =
    let dot : List ℕ = 46 ∷ rest in
    read_octets before text label dot h one room
    ∙ read_step before h.octets dot Dot 1 (before ++ map to_ascii_lowercase h.octets ∷ [], []) (omega arith) (omega arith) refl (dot_ends before h.octets (omega (arith, one.no_less, length_octets text label h)))
    ∙ ap (λ (x : List ℕ). read (before ++ x ∷ []) [] 0 rest) (sym h.lower)

ended_label : (before : Labels) (part : List ℕ) → 0 < length part → labels_at_end before part ≡ Ok (before ++ map to_ascii_lowercase part ∷ [])
ended_label before [] some = absurd (omega arith)
ended_label before (b ∷ part) some = refl

ended_dot : (before : Labels) (label : List ℕ) → labels_at_end (before ++ label ∷ []) [] ≡ Ok (before ++ label ∷ [])
ended_dot [] label = refl
ended_dot (l ∷ before) label = refl

-- the last label has a dot after it or nothing
abbrev pub IsLastDot : List ℕ → Type 0
IsLastDot tail = (tail ≡ []) ⊎ (tail ≡ 46 ∷ [])

read_last : (before : Labels) (text label tail : List ℕ) → IsLabelText text label → IsLabel label → wire_len_with before (length label) ≤ MAX_NAME_OCTETS → IsLastDot tail → read before [] 0 (text ++ tail) ≡ Ok (before ++ label ∷ [])
read_last before text label tail h one room (inl e) =
    read_octets before text label tail h one room
    ∙ read_end before h.octets tail (ap length e)
    ∙ ended_label before h.octets (omega (arith, one.no_less, length_octets text label h))
    ∙ ap (λ (x : List ℕ). Ok (before ++ x ∷ [])) (sym h.lower)
read_last before text label tail h one room (inr e) =
    ap (λ (x : List ℕ). read before [] 0 (text ++ x)) e
    ∙ read_label_dot before text label [] h one room
    ∙ read_end (before ++ label ∷ []) [] [] refl
    ∙ ended_dot before label

read_texts : (before : Labels) (text : List ℕ) (texts : List (List ℕ)) (label : List ℕ) (labels : Labels) (tail : List ℕ) → EachPair IsLabelText (text ∷ texts) (label ∷ labels) → AllByRecursion IsLabel (label ∷ labels) → wire_len (before ++ label ∷ labels) ≤ MAX_NAME_OCTETS → IsLastDot tail → read before [] 0 (join_with_byte 46 (text ∷ texts) ++ tail) ≡ Ok (before ++ label ∷ labels)
read_texts before text [] label [] tail stands each short last =
    read_last before text label tail stands.0 each.0 (omega (arith, short, length-spelled_push before label)) last
read_texts before text [] label (next ∷ labels) tail stands each short last = absurd stands.1
read_texts before text (next ∷ texts) label [] tail stands each short last = absurd stands.1
read_texts before text (next ∷ texts) label (second ∷ labels) tail stands each short last =
    let rest : List ℕ = join_with_byte 46 (next ∷ texts) in
    let whole : (before ++ label ∷ []) ++ second ∷ labels ≡ before ++ label ∷ second ∷ labels = append_assoc before (label ∷ []) (second ∷ labels) in
    let total = ap length (spelled-append before (label ∷ second ∷ labels)) in
    ap (read before [] 0) (append_assoc text (46 ∷ rest) tail)
    ∙ read_label_dot before text label (rest ++ tail) stands.0 each.0 (omega (arith, short, total, length-append (spelled before) (spelled (label ∷ second ∷ labels)), length-append (with_length label) (spelled (second ∷ labels))))
    ∙ read_texts (before ++ label ∷ []) next texts second labels tail stands.1 each.1 (omega (arith, short, ap (λ (x : Labels). length (spelled x)) whole)) last
    ∙ ap (λ (x : Labels). Ok x) whole

-- no label begins with a dot
record Starts (text : List ℕ) : Type 0 where
  octet : ℕ
  taken : ℕ
  atom : (rest : List ℕ) → atom_at (text ++ rest) ≡ Some (Octet octet, taken)

starts_pieces : (pieces : List (List ℕ)) (octets : List ℕ) → EachPair IsOctetText pieces octets → 0 < length octets → Starts (concat pieces)
starts_pieces [] [] each some = absurd (omega arith)
starts_pieces [] (b ∷ octets) each some = absurd each
starts_pieces (piece ∷ pieces) [] each some = absurd each
starts_pieces (piece ∷ pieces) (b ∷ octets) each some =
    record { octet = b; taken = length piece; atom = λ rest. ap atom_at (append_assoc piece (concat pieces) rest) ∙ atom_of_piece piece b (concat pieces ++ rest) each.0 }

starts_label : (text label : List ℕ) → IsLabelText text label → IsLabel label → Starts text
starts_label text label h one = subst Starts (sym h.joined) (starts_pieces h.pieces h.octets h.each (omega (arith, one.no_less, length_octets text label h)))

join_starts : (text : List ℕ) (texts : List (List ℕ)) → (rest : List ℕ) × (join_with_byte 46 (text ∷ texts) ≡ text ++ rest)
join_starts text [] = ([], sym (append-nil text))
join_starts text (next ∷ texts) = (46 ∷ join_with_byte 46 (next ∷ texts), refl)

not_root : (text : List ℕ) (texts : List (List ℕ)) (tail : List ℕ) → Starts text → bytes_eq (join_with_byte 46 (text ∷ texts) ++ tail) (46 ∷ []) ≡ false
not_root text texts tail starts =
    let joined = join_starts text texts in
    let all : join_with_byte 46 (text ∷ texts) ++ tail ≡ text ++ (joined.0 ++ tail) = ap (λ (x : List ℕ). x ++ tail) joined.1 ∙ append_assoc text joined.0 tail in
    false_from_ne_true _ (λ same.
    let dot : join_with_byte 46 (text ∷ texts) ++ tail ≡ 46 ∷ [] = (bytes_eq-Decides _ _).0 same in
    let both : Some (Dot, 1) ≡ Some (Octet starts.octet, starts.taken) = ap atom_at (sym dot ∙ all) ∙ starts.atom (joined.0 ++ tail) in
    let front : (Dot, 1) ≡ (Octet starts.octet, starts.taken) = cc in
    let atoms : Dot ≡ Octet starts.octet = ap (λ (a : Atom × ℕ). a.0) front in
    cc)

read_joined : (texts : List (List ℕ)) (labels : Labels) (text tail : List ℕ) → EachPair IsLabelText texts labels → IsName labels → labels ≢ [] → text ≡ join_with_byte 46 texts ++ tail → IsLastDot tail → name_in text ≡ Ok labels
unfolding name_in
read_joined [] [] text tail each name some e last = absurd (some refl)
read_joined [] (label ∷ labels) text tail each name some e last = absurd each
read_joined (first ∷ texts) [] text tail each name some e last = absurd each
read_joined (first ∷ texts) (label ∷ labels) text tail each name some e last =
    rw e (rw (not_root first texts tail (starts_label first label each.0 name.each.0)) (read_texts [] first texts label labels tail each name.each name.short last))

root_is_read : (texts : List (List ℕ)) (text : List ℕ) → EachPair IsLabelText texts [] → text ≡ join_with_byte 46 texts ++ 46 ∷ [] → name_in text ≡ Ok []
unfolding name_in
root_is_read [] text each e = rw e refl
root_is_read (first ∷ texts) text each e = absurd each

read_dotted : (text : List ℕ) (labels : Labels) (texts : List (List ℕ)) → EachPair IsLabelText texts labels → IsName labels → text ≡ join_with_byte 46 texts ++ 46 ∷ [] → name_in text ≡ Ok labels
read_dotted text [] texts each name e = root_is_read texts text each e
read_dotted text (label ∷ labels) texts each name e = read_joined texts (label ∷ labels) text (46 ∷ []) each name (λ none. cc) e (inr refl)

-- a text that stands for a name is read as that name
pub what_stands_is_read : (text : List ℕ) (labels : Labels) → IsNameText text labels → name_in text ≡ Ok labels
what_stands_is_read text labels h =
    elim h.dots [
      | inl dotted ↦ read_dotted text labels h.texts h.each h.name dotted
      | inr plain ↦ read_joined h.texts labels text [] h.each h.name plain.1 (plain.0 ∙ sym (append-nil (join_with_byte 46 h.texts))) (inl refl)
    ]

-- ---- what is written stands for the name

-- of each octet: how it is written
is_written : ℕ → Bool
is_written b =
    cond (is_special b) (not (is_ascii_digit b) && (is_ascii_graphic b && true))
    (cond (is_ascii_graphic b) (not (b == 46) && (not (b == 92) && true))
    (is_ascii_digit (b / 100 + 48) && (is_ascii_digit (b / 10 % 10 + 48) && (is_ascii_digit (b % 10 + 48) && (decimal (b / 100 + 48) (b / 10 % 10 + 48) (b % 10 + 48) == b)))))

all_written : agree_below is_written (λ _. true) 256 ≡ true
unfolding is_written
all_written = refl

written_octet : (b : ℕ) → b < 256 → IsOctetText (octet_text b) b
unfolding is_written
written_octet b small =
    let buffer_from_view : is_written b ≡ true = agree_below_at is_written (λ _. true) 256 b all_written small in
    elim (cases_Bool (is_special b)) [
      | inl special ↦
          let parts = and_parts _ _ (rw special at buffer_from_view) in
          let more = and_parts _ _ parts.1 in
          rw special (quoted (graphic_from b more.0) (digit_apart b (not-true _ parts.0)) refl)
      | inr plain ↦ elim (cases_Bool (is_ascii_graphic b)) [
        | inl graphic ↦
            let parts = and_parts _ _ (rw (plain, graphic) at buffer_from_view) in
            let more = and_parts _ _ parts.1 in
            let dot : eqb b 46 ≡ false = not-true _ parts.0 in
            let slash : eqb b 92 ≡ false = not-true _ more.0 in
            rw (plain, graphic) (itself (graphic_from b graphic) (λ e. grind (arith, nat_tests)) (λ e. grind (arith, nat_tests)) refl)
        | inr other ↦
            let first = and_parts _ _ (rw (plain, other) at buffer_from_view) in
            let second = and_parts _ _ first.1 in
            let third = and_parts _ _ second.1 in
            let value : decimal (b / 100 + 48) (b / 10 % 10 + 48) (b % 10 + 48) ≡ b = eqb-true _ _ third.1 in
            rw (plain, other) (numbered (b / 100 + 48) (b / 10 % 10 + 48) (b % 10 + 48) (digit_from _ first.0) (digit_from _ second.0) (digit_from _ third.0) (sym value) small refl)
      ]
    ]

written_octets : (label : List ℕ) → AllByRecursion IsLowerOctet label → EachPair IsOctetText (map octet_text label) label
written_octets [] each = tt
written_octets (b ∷ label) each = (written_octet b each.0.octet, written_octets label each.1)

concat_escaped : (label : List ℕ) → flat_map octet_text label ≡ concat (map octet_text label)
concat_escaped [] = refl
concat_escaped (b ∷ label) = ap (λ (x : List ℕ). octet_text b ++ x) (concat_escaped label)

written_label : (label : List ℕ) → IsLabel label → IsLabelText (flat_map octet_text label) label
written_label label h =
    record { pieces = map octet_text label; octets = label; joined = concat_escaped label; each = written_octets label h.octets; lower = sym (lower_itself label h.octets) }

written_labels : (labels : Labels) → AllByRecursion IsLabel labels → EachPair IsLabelText (map (λ l. flat_map octet_text l) labels) labels
written_labels [] each = tt
written_labels (label ∷ labels) each = (written_label label each.0, written_labels labels each.1)

dots_of_text : (label : List ℕ) (labels : Labels) → flat_map label_text (label ∷ labels) ≡ join_with_byte 46 (map (λ l. flat_map octet_text l) (label ∷ labels)) ++ 46 ∷ []
dots_of_text label [] = append-nil (label_text label)
dots_of_text label (next ∷ labels) =
    let text : List ℕ = flat_map octet_text label in
    let rest : List ℕ = join_with_byte 46 (map (λ l. flat_map octet_text l) (next ∷ labels)) in
    ap (λ (x : List ℕ). (text ++ 46 ∷ []) ++ x) (dots_of_text next labels)
    ∙ append_assoc text (46 ∷ []) (rest ++ 46 ∷ [])
    ∙ sym (append_assoc text (46 ∷ rest) (46 ∷ []))

-- the text of a name stands for it
pub text_of-IsNameText : (labels : Labels) → IsName labels → IsNameText (text_of labels) labels
text_of-IsNameText [] h = record { texts = []; dots = inl refl; each = tt; name = h }
text_of-IsNameText (label ∷ labels) h =
    record { texts = map (λ l. flat_map octet_text l) (label ∷ labels); dots = inl (dots_of_text label labels); each = written_labels (label ∷ labels) h.each; name = h }

-- the text of a name is read back as that name
pub name_in-text_of : (labels : Labels) → IsName labels → name_in (text_of labels) ≡ Ok labels
name_in-text_of labels h = what_stands_is_read (text_of labels) labels (text_of-IsNameText labels h)
