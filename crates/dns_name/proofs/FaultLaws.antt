-- The fault that is told of a text is the first from the left.
use Rattle.std.proofs.Common.{◌≡◌, ◌≢◌, ℕ, zero, suc, ◌+◌, ◌-◌, ◌<◌, ◌≤◌, true, false, List, [], ◌∷◌, ◌++◌, length, map, take, drop, Option, Some, None, Result, Ok, Err, refl, sym, ap, subst, ◌∙◌, append_assoc, arith, length-append, eq-eqb, inl, inr}
use Rattle.std.proofs.lemmas.Bool.{eqb-true, ne_eqb, lt-ltb, cases_Bool, false_from_ne_true}
use Rattle.std.proofs.lemmas.Bool.Decides.{nat_tests}
use Rattle.std.proofs.lemmas.List.{append-nil, take-append-drop, nil_from_length}
use Rattle.std.proofs.lemmas.List.Folds.{concat-append}
use Rattle.std.proofs.lemmas.List.Concat.{flat_map-append}
use Rattle.std.proofs.lemmas.Slice.Eq.{bytes_eq-Decides}
use Rattle.std.specs.Prelude.{◌==◌, nat_lt, IfErr}
use Rattle.std.specs.Char.{to_ascii_lowercase}
use Rattle.std.specs.List.{AllByRecursion, concat, flat_map}
use Rattle.std.specs.Str.{bytes_eq}
use Rattle.dns_name.specs.declared.text.Atom.{Atom}
use Rattle.dns_name.specs.declared.text.Atom.TheVariants.{Dot, Octet}
use Rattle.dns_name.specs.declared.fault.NameFault.{NameFault}
use Rattle.dns_name.specs.declared.fault.NameFault.TheVariants.{EmptyLabel, LongLabel, LongName, BadEscape, NoMemory}
use Rattle.dns_name.specs.declared.limits.TheConstants.{MAX_LABEL_OCTETS, MAX_NAME_OCTETS}
use Rattle.dns_name.specs.Labels.{Labels, IsLabel, spelled, with_length, wire_len, wire_len_with}
use Rattle.dns_name.specs.Octets.{spelled-append}
use Rattle.dns_name.specs.Making.{Gives}
use Rattle.dns_name.specs.Results.{or_fault}
use Rattle.dns_name.specs.ResultLaws.{bound_err, or_fault-ok, or_fault-err}
use Rattle.dns_name.specs.Reading.{TellsTheFirstFault, atom_at, after_atom, labels_at_end, read, name_in}
use Rattle.dns_name.specs.Text.{IsOctetText, EachPair, IsLabelText, IsFront, BeginsWithOctet, BeginsWithDot, IsFaultAt, IsFirstFault, HasRoom}
use Rattle.dns_name.specs.TextLaws.{atom_of_piece, length_piece, read_pieces, read_label_dot, read_fault, read_bad, read_end}
use Rattle.dns_name.proofs.ReadLaws.{IsAtomText, IsFound, found_atom, IsNext, stepped_ok, Progress, next_progress, nothing_read, skip_first}

pairs-append : {X Y : Type 0} (R : X → Y → Type 0) (xs : List X) (ys : List Y) (us : List X) (vs : List Y) → EachPair R xs ys → EachPair R us vs → EachPair R (xs ++ us) (ys ++ vs)
pairs-append R [] [] us vs h k = k
pairs-append R [] (y ∷ ys) us vs h k = absurd h
pairs-append R (x ∷ xs) [] us vs h k = absurd h
pairs-append R (x ∷ xs) (y ∷ ys) us vs h k = (h.0, pairs-append R xs ys us vs h.1 k)

-- ---- the front of a text, one atom on

front_octet : (front : List ℕ) (before : Labels) (part piece : List ℕ) (b : ℕ) → IsFront front before part → IsOctetText piece b → Progress before (part ++ b ∷ []) → IsFront (front ++ piece) before (part ++ b ∷ [])
front_octet front before part piece b f stands p =
    let dotted : List ℕ = flat_map (λ t. t ++ 46 ∷ []) f.texts in
    record {
      texts = f.texts;
      pieces = f.pieces ++ piece ∷ [];
      joined = ap (λ (x : List ℕ). x ++ piece) f.joined
          ∙ append_assoc dotted (concat f.pieces) piece
          ∙ ap (λ (x : List ℕ). dotted ++ x) (sym (concat-append f.pieces (piece ∷ []) ∙ ap (λ (x : List ℕ). concat f.pieces ++ x) (append-nil piece)));
      labels = f.labels;
      octets = pairs-append IsOctetText f.pieces part (piece ∷ []) (b ∷ []) f.octets (stands, tt);
      name = p.name;
      few = p.few;
      room = p.room;
    }

front_dot : (front : List ℕ) (before : Labels) (part : List ℕ) → IsFront front before part → Progress (before ++ map to_ascii_lowercase part ∷ []) [] → IsFront (front ++ 46 ∷ []) (before ++ map to_ascii_lowercase part ∷ []) []
front_dot front before part f p =
    let dotted : List ℕ = flat_map (λ t. t ++ 46 ∷ []) f.texts in
    let last : List ℕ = concat f.pieces in
    let label : IsLabelText last (map to_ascii_lowercase part) = record { pieces = f.pieces; octets = part; joined = refl; each = f.octets; lower = refl } in
    record {
      texts = f.texts ++ last ∷ [];
      pieces = [];
      joined = ap (λ (x : List ℕ). x ++ 46 ∷ []) f.joined
          ∙ append_assoc dotted last (46 ∷ [])
          ∙ sym (append-nil (flat_map (λ t. t ++ 46 ∷ []) (f.texts ++ last ∷ []))
          ∙ flat_map-append (λ t. t ++ 46 ∷ []) f.texts (last ∷ [])
          ∙ ap (λ (x : List ℕ). dotted ++ x) (append-nil (last ++ 46 ∷ [])));
      labels = pairs-append IsLabelText f.texts before (last ∷ []) (map to_ascii_lowercase part ∷ []) f.labels (label, tt);
      octets = tt;
      name = p.name;
      few = p.few;
      room = p.room;
    }

front_next : (front : List ℕ) (before : Labels) (part piece : List ℕ) (atom : Atom) (next : Labels × List ℕ) → IsAtomText piece atom → IsNext before part atom next → IsFront front before part → Progress next.0 next.1 → IsFront (front ++ piece) next.0 next.1
front_next front before part piece Dot next stands done f p =
    rw (stands, done.1) (front_dot front before part f (subst (λ (n : Labels × List ℕ). Progress n.0 n.1) done.1 p))
front_next front before part piece (Octet b) next stands done f p =
    rw done.2 (front_octet front before part piece b f stands (subst (λ (n : Labels × List ℕ). Progress n.0 n.1) done.2 p))

-- ---- what a step that failed says

step_fault : (before : Labels) (part piece rest : List ℕ) (atom : Atom) (fault : NameFault) → length part ≤ MAX_LABEL_OCTETS → IsAtomText piece atom → after_atom before part atom ≡ Err fault → IsFaultAt before part (piece ++ rest) fault
step_fault before part piece rest Dot fault few stands e =
    elim (cases_Bool (length part == 0)) [
      | inl none ↦
          let bad = rw none at e in
          let is : EmptyLabel ≡ fault = cc in
          subst (IsFaultAt before part (piece ++ rest)) is (nil_from_length part (eqb-true (length part) 0 none), inl (rest, ap (λ (x : List ℕ). x ++ rest) stands))
      | inr some ↦ absurd (let good = rw some at e in cc)
    ]
step_fault before part piece rest (Octet b) fault few stands e =
    let octet : BeginsWithOctet (piece ++ rest) = record { piece = piece; rest = rest; octet = b; parts = refl; written = stands } in
    elim (cases_Bool (length part == MAX_LABEL_OCTETS)) [
      | inl full ↦
          let bad = rw full at e in
          let is : LongLabel ≡ fault = cc in
          subst (IsFaultAt before part (piece ++ rest)) is (eqb-true (length part) MAX_LABEL_OCTETS full, octet)
      | inr short ↦ elim (cases_Bool (nat_lt MAX_NAME_OCTETS (wire_len_with before (length part + 1)))) [
        | inl long ↦
            let bad = rw (short, long) at e in
            let is : LongName ≡ fault = cc in
            subst (IsFaultAt before part (piece ++ rest)) is (grind (arith, nat_tests), grind (arith, nat_tests), octet)
        | inr fits ↦ absurd (let good = rw (short, fits) at e in cc)
      ]
    ]

nothing_stands : (before : Labels) (part : List ℕ) (c : ℕ) (rest : List ℕ) → atom_at (c ∷ rest) ≡ None → IsFaultAt before part (c ∷ rest) BadEscape
nothing_stands before part c rest e = (
  λ none. cc,
  λ dot. let both : None ≡ Some (Dot, 1) = sym e ∙ ap atom_at dot.1 in cc,
  λ o. let both : None ≡ Some (Octet o.octet, length o.piece) = sym e ∙ ap atom_at o.parts ∙ atom_of_piece o.piece o.octet o.rest o.written in cc,
)

end_fault : (before : Labels) (part : List ℕ) (fault : NameFault) → labels_at_end before part ≡ Err fault → IsFaultAt before part [] fault
end_fault [] [] fault e = let is : EmptyLabel ≡ fault = cc in subst (IsFaultAt [] [] []) is (refl, inr (refl, refl))
end_fault (l ∷ before) [] fault e = absurd cc
end_fault before (b ∷ part) fault e = absurd cc

-- ---- the scan

-- the first fault of a text, were it not the dot of the root
record Stops (text : List ℕ) (fault : NameFault) : Type 0 where
  front : List ℕ
  rest : List ℕ
  before : Labels
  part : List ℕ
  parts : text ≡ front ++ rest
  good : IsFront front before part
  bad : IsFaultAt before part rest fault

stops : (text front : List ℕ) (before : Labels) (part : List ℕ) (skip : ℕ) (rest : List ℕ) (fault : NameFault) → text ≡ front ++ drop skip rest → IsFront front before part → Progress before part → read before part skip rest ≡ Err fault → Stops text fault
unfolding read
stops text front before part zero [] fault parts good p e = record { front = front; rest = []; before = before; part = part; parts = parts; good = good; bad = end_fault before part fault e }
stops text front before part (suc skip) [] fault parts good p e = record { front = front; rest = []; before = before; part = part; parts = parts; good = good; bad = end_fault before part fault e }
stops text front before part (suc skip) (c ∷ rest) fault parts good p e = stops text front before part skip rest fault parts good p e
stops text front before part zero (c ∷ rest) fault parts good p e =
    elim (bound_err (or_fault BadEscape (atom_at (c ∷ rest))) _ fault e) [
      | inl bad ↦
          let none = or_fault-err BadEscape (atom_at (c ∷ rest)) fault bad in
          record { front = front; rest = c ∷ rest; before = before; part = part; parts = parts; good = good; bad = subst (IsFaultAt before part (c ∷ rest)) none.1 (nothing_stands before part c rest none.0) }
      | inr one ↦
          let piece : List ℕ = take one.0.1 (c ∷ rest) in
          let after : List ℕ = drop one.0.1 (c ∷ rest) in
          let whole : piece ++ after ≡ c ∷ rest = take-append-drop one.0.1 (c ∷ rest) in
          let found : IsFound (c ∷ rest) (Some one.0) = subst (IsFound (c ∷ rest)) (or_fault-ok BadEscape (atom_at (c ∷ rest)) one.0 one.1.0) (found_atom (c ∷ rest)) in
          elim (bound_err (after_atom before part one.0.0) _ fault one.1.1) [
            | inl bad ↦ record { front = front; rest = c ∷ rest; before = before; part = part; parts = parts; good = good; bad = subst (λ (x : List ℕ). IsFaultAt before part x fault) whole (step_fault before part piece after one.0.0 fault p.few found.0 bad) }
            | inr two ↦
                let done = stepped_ok before part one.0.0 two.0 two.1.0 in
                let next = next_progress before part piece one.0.0 two.0 found.0 done p in
                let further : text ≡ (front ++ piece) ++ drop (one.0.1 - 1) rest = parts ∙ ap (λ (x : List ℕ). front ++ x) (sym whole) ∙ sym (append_assoc front piece after) ∙ ap (λ (x : List ℕ). (front ++ piece) ++ x) (sym (skip_first c one.0.1 rest found.1)) in
                stops text (front ++ piece) two.0.0 two.0.1 (one.0.1 - 1) rest fault further (front_next front before part piece one.0.0 two.0 found.0 done good next) next two.1.1
          ]
    ]

nothing_before : IsFront [] [] []
nothing_before = record { texts = []; pieces = []; joined = refl; labels = tt; octets = tt; name = nothing_read.name; few = nothing_read.few; room = nothing_read.room }

pub first_fault : (text : List ℕ) (fault : NameFault) → name_in text ≡ Err fault → IsFirstFault text fault
unfolding name_in
first_fault text fault e =
    elim (cases_Bool (bytes_eq text (46 ∷ []))) [
      | inl dot ↦ absurd (let good = rw dot at e in cc)
      | inr other ↦
          let reads : read [] [] 0 text ≡ Err fault = rw other at e in
          let s = stops text [] [] [] 0 text fault refl nothing_before nothing_read reads in
          record {
            not_root = λ root. let dot : bytes_eq text (46 ∷ []) ≡ true = (bytes_eq-Decides text (46 ∷ [])).1 root in cc;
            front = s.front;
            rest = s.rest;
            before = s.before;
            part = s.part;
            parts = s.parts;
            good = s.good;
            bad = s.bad;
          }
    ]

-- ---- where a fault is the first, it is told

read_dotted : (before : Labels) (texts : List (List ℕ)) (labels : Labels) (rest : List ℕ) → EachPair IsLabelText texts labels → AllByRecursion IsLabel labels → wire_len (before ++ labels) ≤ MAX_NAME_OCTETS → read before [] 0 (flat_map (λ t. t ++ 46 ∷ []) texts ++ rest) ≡ read (before ++ labels) [] 0 rest
read_dotted before [] [] rest each labels short = ap (λ (x : Labels). read x [] 0 rest) (sym (append-nil before))
read_dotted before [] (label ∷ more) rest each labels short = absurd each
read_dotted before (text ∷ texts) [] rest each labels short = absurd each
read_dotted before (text ∷ texts) (label ∷ more) rest each labels short =
    let dotted : List ℕ = flat_map (λ t. t ++ 46 ∷ []) texts in
    let whole : (before ++ label ∷ []) ++ more ≡ before ++ label ∷ more = append_assoc before (label ∷ []) more in
    let total = ap length (spelled-append before (label ∷ more)) in
    ap (read before [] 0) (append_assoc (text ++ 46 ∷ []) dotted rest ∙ append_assoc text (46 ∷ []) (dotted ++ rest))
    ∙ read_label_dot before text label (dotted ++ rest) each.0 labels.0 (omega (arith, short, total, length-append (spelled before) (spelled (label ∷ more)), length-append (with_length label) (spelled more)))
    ∙ read_dotted (before ++ label ∷ []) texts more rest each.1 labels.1 (omega (arith, short, ap (λ (x : Labels). length (spelled x)) whole))
    ∙ ap (λ (x : Labels). read x [] 0 rest) whole

read_part : (before : Labels) (pieces : List (List ℕ)) (part rest : List ℕ) → EachPair IsOctetText pieces part → length part ≤ MAX_LABEL_OCTETS → HasRoom before part → read before [] 0 (concat pieces ++ rest) ≡ read before part 0 rest
read_part before [] [] rest each few room = refl
read_part before [] (b ∷ part) rest each few room = absurd each
read_part before (piece ∷ pieces) [] rest each few room = absurd each
read_part before (piece ∷ pieces) (b ∷ part) rest each few room = read_pieces before [] (piece ∷ pieces) (b ∷ part) rest each (omega arith) (omega (arith, room (omega arith)))

read_front : (front rest : List ℕ) (before : Labels) (part : List ℕ) → IsFront front before part → read [] [] 0 (front ++ rest) ≡ read before part 0 rest
read_front front rest before part f =
    let dotted : List ℕ = flat_map (λ t. t ++ 46 ∷ []) f.texts in
    ap (λ (x : List ℕ). read [] [] 0 (x ++ rest)) f.joined
    ∙ ap (read [] [] 0) (append_assoc dotted (concat f.pieces) rest)
    ∙ read_dotted [] f.texts before (concat f.pieces ++ rest) f.labels f.name.each f.name.short
    ∙ read_part before f.pieces part rest f.octets f.few f.room

stepped_long : (before : Labels) (part : List ℕ) (b : ℕ) → length part ≡ MAX_LABEL_OCTETS → after_atom before part (Octet b) ≡ Err LongLabel
stepped_long before part b full = rw (eq-eqb (length part) MAX_LABEL_OCTETS full) refl

stepped_past : (before : Labels) (part : List ℕ) (b : ℕ) → length part < MAX_LABEL_OCTETS → MAX_NAME_OCTETS < wire_len_with before (length part + 1) → after_atom before part (Octet b) ≡ Err LongName
stepped_past before part b few past = rw (ne_eqb (length part) MAX_LABEL_OCTETS (λ e. omega arith), lt-ltb MAX_NAME_OCTETS (wire_len_with before (length part + 1)) past) refl

octet_fault : (before : Labels) (part rest : List ℕ) (fault : NameFault) (o : BeginsWithOctet rest) → after_atom before part (Octet o.octet) ≡ Err fault → read before part 0 rest ≡ Err fault
octet_fault before part rest fault o e =
    read_fault before part rest (Octet o.octet) (length o.piece) fault
    (omega (arith, ap length o.parts, length-append o.piece o.rest, length_piece o.piece o.octet o.written))
    (ap atom_at o.parts ∙ atom_of_piece o.piece o.octet o.rest o.written)
    e

no_atom : (rest : List ℕ) (found : Option (Atom × ℕ)) → atom_at rest ≡ found → IsFound rest found → ¬ BeginsWithDot rest → ¬ BeginsWithOctet rest → found ≡ None
no_atom rest None e h dot octet = refl
no_atom rest (Some found) e h dot octet = absurd (begins rest found.0 found.1 h.0 dot octet)
  where
    begins : (rest : List ℕ) (atom : Atom) (k : ℕ) → IsAtomText (take k rest) atom → ¬ BeginsWithDot rest → ¬ BeginsWithOctet rest → ⊥
    begins rest Dot k stands dot octet = dot (drop k rest, sym (take-append-drop k rest) ∙ ap (λ (x : List ℕ). x ++ drop k rest) stands)
    begins rest (Octet b) k stands dot octet = octet (record { piece = take k rest; rest = drop k rest; octet = b; parts = sym (take-append-drop k rest); written = stands })

some_text : (rest : List ℕ) → rest ≢ [] → 0 < length rest
some_text [] some = absurd (some refl)
some_text (c ∷ rest) some = omega arith

fault_told : (before : Labels) (part rest : List ℕ) (fault : NameFault) → IsFaultAt before part rest fault → read before part 0 rest ≡ Err fault
fault_told before part rest NoMemory h = absurd h
fault_told before part rest BadEscape h = read_bad before part rest (some_text rest h.0) (no_atom rest (atom_at rest) refl (found_atom rest) h.1 h.2)
fault_told before part rest LongLabel h = octet_fault before part rest LongLabel h.1 (stepped_long before part h.1.octet h.0)
fault_told before part rest LongName h = octet_fault before part rest LongName h.2 (stepped_past before part h.2.octet h.0 (omega (arith, h.1)))
fault_told before part rest EmptyLabel h =
    elim h.1 [
      | inl dot ↦ rw (h.0, dot.1) (read_fault before [] (46 ∷ dot.0) Dot 1 EmptyLabel (omega arith) refl refl)
      | inr over ↦ rw (h.0, over.0, over.1) (read_end [] [] [] refl)
    ]

pub told_where_first : (text : List ℕ) (fault : NameFault) → IsFirstFault text fault → name_in text ≡ Err fault
unfolding name_in
told_where_first text fault h =
    let other : bytes_eq text (46 ∷ []) ≡ false = false_from_ne_true _ (λ same. h.not_root ((bytes_eq-Decides text (46 ∷ [])).0 same)) in
    rw other (ap (read [] [] 0) h.parts ∙ read_front h.front h.rest h.before h.part h.good ∙ fault_told h.before h.part h.rest fault h.bad)

pub tells_the_first_fault : TellsTheFirstFault
tells_the_first_fault text fault = (first_fault text fault, told_where_first text fault)

pub gives_first_fault : (r : Result Labels NameFault) (text : List ℕ) → Gives r (name_in text) → IfErr r (λ e. e ≢ NoMemory → IsFirstFault text e)
gives_first_fault (Ok n) text h = tt
gives_first_fault (Err e) text h = λ other. first_fault text e (h other)
