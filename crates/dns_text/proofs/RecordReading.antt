-- Records are read from a text exactly where the text stands for them.
use Rattle.std.proofs.Common.{◌≡◌, ℕ, ◌<◌, Bool, true, false, List, [], ◌∷◌, ◌++◌, Option, Some, None, Result, Ok, Err, refl, sym, ap, subst, ◌∙◌, inl, inr, arith, eqb-true}
use Rattle.std.specs.Prelude.{◌⊎◌, ◌||◌, ◌==◌, is_none, unwrap_or, IfOk}
use Rattle.std.specs.Char.{is_ascii_digit}
use Rattle.std.proofs.lemmas.Bool.{cases_Bool, and_parts, agree_below_at}
use Rattle.std.proofs.lemmas.Bool.Decides.{nat_tests}
use Rattle.dns_name.specs.Results.{◌>>=◌, or_fault}
use Rattle.dns_name.specs.ResultLaws.{bound_ok, or_fault-ok}
use Rattle.dns_name.specs.Reading.{ReadsWhatStands}
use Rattle.dns_text.specs.declared.fault.TextFault.{TextFault}
use Rattle.dns_text.specs.declared.fault.TextFault.TheVariants.{BadName, BadTtl, BadType, BadData}
use Rattle.dns_text.specs.Fault.{Gives}
use Rattle.dns_text.specs.declared.record.Record.{Record}
use Rattle.dns_text.specs.declared.ttl.TheConstants.{MOST_TTL}
use Rattle.dns_text.specs.Number.{IsNumberText, is_digits, number_in}
use Rattle.dns_text.specs.Word.{BeginsWithWords, next_word}
use Rattle.dns_text.specs.Field.{named}
use Rattle.dns_text.specs.Kind.{types, by_name, type_number, type_in}
use Rattle.dns_text.specs.Data.{data_in}
use Rattle.dns_text.specs.Record.{is_class, AreTtlAndClass, neither, ttl_alone, class_alone, ttl_first, class_first, IsRecordText, ReadsRecords, ttl_at, after_class, with_ttl, ttl_and_class, record_in}
use Rattle.dns_text.proofs.FieldReading.{numeral_is_digits, number_found, number_read, named_found, named_read}
use Rattle.dns_text.proofs.DataReading.{data_in_found, data_in_read}

-- ---- words that are no type

-- no type's name begins with a digit or what is before the digits
no_name : (n : ℕ) (word : List ℕ) → n < 58 → is_none (by_name (n ∷ word) types) ≡ true
unfolding by_name
no_name n word low = agree_below_at (λ c. is_none (by_name (c ∷ word) types)) (λ _. true) 58 n refl low

none_of : {X : Type 0} (o : Option X) → is_none o ≡ true → o ≡ None
none_of None e = refl
none_of (Some x) e = absurd cc

digit_is_low : (c : ℕ) → is_ascii_digit c ≡ true → c < 58
digit_is_low c e = grind (arith, nat_tests)

no_number : (c : ℕ) (word : List ℕ) → c < 58 → is_none (type_number (c ∷ word)) ≡ true
no_number c [] low = refl
no_number c (y ∷ []) low = refl
no_number c (y ∷ p ∷ []) low = refl
no_number c (y ∷ p ∷ e ∷ word) low = agree_below_at (λ c. is_none (type_number (c ∷ y ∷ p ∷ e ∷ word))) (λ _. true) 58 c refl low

digits_no_type : (word : List ℕ) → is_digits word ≡ true → type_in word ≡ None
unfolding type_in
digits_no_type [] e = absurd cc
digits_no_type (c ∷ word) e =
    let parts = and_parts _ _ e in
    let low : c < 58 = digit_is_low c parts.0 in
    rw (none_of (by_name (c ∷ word) types) (no_name c word low)) (rw (none_of (type_number (c ∷ word)) (no_number c word low)) refl)

two_cases : (b c : Bool) → (b || c) ≡ true → (b ≡ true) ⊎ (c ≡ true)
two_cases true c e = inl refl
two_cases false c e = inr e

-- what holds of the word IN in small letters and capitals holds of each class
of_class : (P : List ℕ → Type 0) → P (73 ∷ 78 ∷ []) → P (73 ∷ 110 ∷ []) → P (105 ∷ 78 ∷ []) → P (105 ∷ 110 ∷ []) → (word : List ℕ) → is_class word ≡ true → P word
of_class P one two three four [] e = absurd cc
of_class P one two three four (a ∷ []) e = absurd cc
of_class P one two three four (a ∷ b ∷ []) e =
    let parts = and_parts _ _ e in
    elim (two_cases (a == 73) (a == 105) parts.0) [
      | inl large_a ↦ elim (two_cases (b == 78) (b == 110) parts.1) [
        | inl large_b ↦ subst P (rw (eqb-true a 73 large_a, eqb-true b 78 large_b) refl) one
        | inr small_b ↦ subst P (rw (eqb-true a 73 large_a, eqb-true b 110 small_b) refl) two
      ]
      | inr small_a ↦ elim (two_cases (b == 78) (b == 110) parts.1) [
        | inl large_b ↦ subst P (rw (eqb-true a 105 small_a, eqb-true b 78 large_b) refl) three
        | inr small_b ↦ subst P (rw (eqb-true a 105 small_a, eqb-true b 110 small_b) refl) four
      ]
    ]
of_class P one two three four (a ∷ b ∷ c ∷ word) e = absurd cc

class_no_type : (word : List ℕ) → is_class word ≡ true → type_in word ≡ None
unfolding type_in by_name
class_no_type word e = of_class (λ w. type_in w ≡ None) refl refl refl refl word e

class_no_digits : (word : List ℕ) → is_class word ≡ true → is_digits word ≡ false
class_no_digits word e = of_class (λ w. is_digits w ≡ false) refl refl refl refl word e

type_no_digits : (word : List ℕ) (kind : ℕ) → type_in word ≡ Some kind → is_digits word ≡ false
type_no_digits word kind e = elim (cases_Bool (is_digits word)) [
  | inl digits ↦ let none : None ≡ Some kind = sym (digits_no_type word digits) ∙ e in absurd cc
  | inr other ↦ other
]

type_no_class : (word : List ℕ) (kind : ℕ) → type_in word ≡ Some kind → is_class word ≡ false
type_no_class word kind e = elim (cases_Bool (is_class word)) [
  | inl named_class ↦ let none : None ≡ Some kind = sym (class_no_type word named_class) ∙ e in absurd cc
  | inr other ↦ other
]

-- ---- from one first word to the next

abbrev First : Type 0
First = Option (List ℕ × List ℕ)

-- From a first word, over these words, to what is after them.
abbrev WordsLead : First → List (List ℕ) → First → Type 0
WordsLead first [] last = first ≡ last
WordsLead first (word ∷ words) last = (rest : List ℕ) × (first ≡ Some (word, rest)) × WordsLead (next_word rest) words last

abbrev IsTtlAt : First → Option ℕ → First → Type 0
IsTtlAt first None last = first ≡ last
IsTtlAt first (Some n) last = (word : List ℕ) × IsNumberText MOST_TTL word n × WordsLead first (word ∷ []) last

ok_same : {X : Type 0} {x y : X} → (let r : Result X TextFault = Ok x in r) ≡ Ok y → x ≡ y
ok_same e = cc

ttl_found : (first : First) (found : Option ℕ × First) → ttl_at first ≡ Ok found → IsTtlAt first found.0 found.1
ttl_found None found e = subst (λ (f : Option ℕ × First). IsTtlAt None f.0 f.1) (ok_same e) refl
ttl_found (Some f) found e = elim (cases_Bool (is_digits f.0)) [
  | inl digits ↦
      let here : (or_fault BadTtl (number_in MOST_TTL f.0) >>= λ n. Ok (Some n, next_word f.1)) ≡ Ok found = sym (rw digits refl) ∙ e in
      let one = bound_ok (or_fault BadTtl (number_in MOST_TTL f.0)) (λ n. Ok (Some n, next_word f.1)) found here in
      let number = number_found MOST_TTL f.0 one.0 (or_fault-ok BadTtl (number_in MOST_TTL f.0) one.0 one.1.0) in
      subst (λ (f' : Option ℕ × First). IsTtlAt (Some f) f'.0 f'.1) (ok_same one.1.1) (f.0, number, (f.1, refl, refl))
  | inr other ↦
      let here : Ok (None, Some f) ≡ Ok found = sym (rw other refl) ∙ e in
      subst (λ (f' : Option ℕ × First). IsTtlAt (Some f) f'.0 f'.1) (ok_same here) refl
]

abbrev IsClassAt : First → First → Type 0
IsClassAt first last = (first ≡ last) ⊎ ((word : List ℕ) × (is_class word ≡ true) × WordsLead first (word ∷ []) last)

class_found : (first : First) → IsClassAt first (after_class first)
class_found None = inl refl
class_found (Some f) = elim (cases_Bool (is_class f.0)) [
  | inl named_class ↦ rw named_class (inr (f.0, named_class, (f.1, refl, refl)))
  | inr other ↦ rw other (inl refl)
]

-- what is between the name and the type
record Middle (first : First) (found : ℕ × First) : Type 0 where
  pub words : List (List ℕ)
  pub leads : WordsLead first words found.1
  pub ttl_and_class : AreTtlAndClass words found.0

-- a time to live, and then perhaps a class
behind_ttl : (first middle last : First) (n : ℕ) (word : List ℕ) → IsNumberText MOST_TTL word n → WordsLead first (word ∷ []) middle → IsClassAt middle last → Middle first (n, last)
behind_ttl first middle last n word number leads (inl none) = record { words = word ∷ []; leads = (leads.0, leads.1, leads.2 ∙ none); ttl_and_class = ttl_alone number }
behind_ttl first middle last n word number leads (inr named_class) =
    record {
      words = word ∷ named_class.0 ∷ [];
      leads = (leads.0, leads.1, subst (λ (f : First). WordsLead f (named_class.0 ∷ []) last) (sym leads.2) named_class.2);
      ttl_and_class = ttl_first number named_class.1;
    }

-- perhaps a class, and then perhaps a time to live
behind_class : (first middle last : First) (o : Option ℕ) → IsClassAt first middle → IsTtlAt middle o last → Middle first (unwrap_or o 3600, last)
behind_class first middle last None (inl none) same = record { words = []; leads = none ∙ same; ttl_and_class = neither }
behind_class first middle last (Some n) (inl none) number =
    record { words = number.0 ∷ []; leads = subst (λ (f : First). WordsLead f (number.0 ∷ []) last) (sym none) number.2; ttl_and_class = ttl_alone number.1 }
behind_class first middle last None (inr named_class) same =
    record { words = named_class.0 ∷ []; leads = (named_class.2.0, named_class.2.1, named_class.2.2 ∙ same); ttl_and_class = class_alone named_class.1 }
behind_class first middle last (Some n) (inr named_class) number =
    record {
      words = named_class.0 ∷ number.0 ∷ [];
      leads = (named_class.2.0, named_class.2.1, subst (λ (f : First). WordsLead f (number.0 ∷ []) last) (sym named_class.2.2) number.2);
      ttl_and_class = class_first named_class.1 number.1;
    }

middle_found : (first : First) (before : Option ℕ) (middle : First) (found : ℕ × First) → IsTtlAt first before middle → with_ttl before (after_class middle) ≡ Ok found → Middle first found
middle_found first (Some n) middle found number e =
    subst (λ (f : ℕ × First). Middle first f) (ok_same e) (behind_ttl first middle (after_class middle) n number.0 number.1 number.2 (class_found middle))
middle_found first None middle found same e =
    let one = bound_ok (ttl_at (after_class middle)) (λ behind. Ok (unwrap_or behind.0 3600, behind.1)) found e in
    let behind = ttl_found (after_class middle) one.0 one.1.0 in
    let start : IsClassAt first (after_class middle) = subst (λ (f : First). IsClassAt f (after_class middle)) (sym same) (class_found middle) in
    subst (λ (f : ℕ × First). Middle first f) (ok_same one.1.1) (behind_class first (after_class middle) one.0.1 one.0.0 start behind)

ttl_and_class_found : (first : First) (found : ℕ × First) → ttl_and_class first ≡ Ok found → Middle first found
unfolding ttl_and_class
ttl_and_class_found first found e =
    let one = bound_ok (ttl_at first) (λ before. with_ttl before.0 (after_class before.1)) found e in
    middle_found first one.0.0 one.0.1 found (ttl_found first one.0 one.1.0) one.1.1

-- ---- what is there is read

ttl_there : (word rest : List ℕ) (n : ℕ) → IsNumberText MOST_TTL word n → ttl_at (Some (word, rest)) ≡ Ok (Some n, next_word rest)
ttl_there word rest n h = rw (numeral_is_digits word h.numeral) (rw (number_read MOST_TTL word n h) refl)

ttl_absent : (word rest : List ℕ) → is_digits word ≡ false → ttl_at (Some (word, rest)) ≡ Ok (None, Some (word, rest))
ttl_absent word rest e = rw e refl

class_there : (word rest : List ℕ) → is_class word ≡ true → after_class (Some (word, rest)) ≡ next_word rest
class_there word rest e = rw e refl

class_absent : (word rest : List ℕ) → is_class word ≡ false → after_class (Some (word, rest)) ≡ Some (word, rest)
class_absent word rest e = rw e refl

-- a word of digits is no class
number_no_class : (word : List ℕ) (n : ℕ) → IsNumberText MOST_TTL word n → is_class word ≡ false
number_no_class word n h = elim (cases_Bool (is_class word)) [
  | inl named_class ↦ let both : true ≡ false = sym (numeral_is_digits word h.numeral) ∙ class_no_digits word named_class in absurd cc
  | inr other ↦ other
]

-- no time to live is before the type, with or without a class before it
ttl_last : (word rest : List ℕ) → is_digits word ≡ false → with_ttl None (Some (word, rest)) ≡ Ok (3600, Some (word, rest))
ttl_last word rest e = rw (ttl_absent word rest e) refl

ttl_and_class_read : (first : First) (words : List (List ℕ)) (n : ℕ) (word rest : List ℕ) → AreTtlAndClass words n → WordsLead first words (Some (word, rest)) → is_digits word ≡ false → is_class word ≡ false → ttl_and_class first ≡ Ok (n, Some (word, rest))
unfolding ttl_and_class
ttl_and_class_read first [] n word rest neither leads plain other =
    rw leads (rw (ttl_absent word rest plain) (rw (class_absent word rest other) (ttl_last word rest plain)))
ttl_and_class_read first (one ∷ []) n word rest (ttl_alone number) leads plain other =
    rw leads.1 (rw (ttl_there one leads.0 n number) (rw leads.2 (rw (class_absent word rest other) refl)))
ttl_and_class_read first (one ∷ []) n word rest (class_alone named_class) leads plain other =
    rw leads.1 (rw (ttl_absent one leads.0 (class_no_digits one named_class)) (rw (class_there one leads.0 named_class) (rw leads.2 (ttl_last word rest plain))))
ttl_and_class_read first (one ∷ two ∷ []) n word rest (ttl_first number named_class) leads plain other =
    let more = leads.2 in
    rw leads.1 (rw (ttl_there one leads.0 n number) (rw more.1 (rw (class_there two more.0 named_class) (rw more.2 refl))))
ttl_and_class_read first (one ∷ two ∷ []) n word rest (class_first named_class number) leads plain other =
    let more = leads.2 in
    rw leads.1 (rw (ttl_absent one leads.0 (class_no_digits one named_class)) (rw (class_there one leads.0 named_class) (rw more.1 (rw (ttl_there two more.0 n number) (rw more.2 refl)))))
ttl_and_class_read first (one ∷ two ∷ three ∷ words) n word rest h leads plain other = elim h [ ]

-- ---- a whole record

-- the words of a text from its first word
begins_leads : (text : List ℕ) (words : List (List ℕ)) (word rest : List ℕ) → BeginsWithWords text (words ++ word ∷ []) rest → WordsLead (next_word text) words (Some (word, rest))
begins_leads text [] word rest h = h.1 ∙ ap (λ (r : List ℕ). let o : First = Some (word, r) in o) h.2
begins_leads text (one ∷ words) word rest h = (h.0, h.1, begins_leads h.0 words word rest h.2)

leads_begins : (text : List ℕ) (words : List (List ℕ)) (word rest : List ℕ) → WordsLead (next_word text) words (Some (word, rest)) → BeginsWithWords text (words ++ word ∷ []) rest
leads_begins text [] word rest h = (rest, h, refl)
leads_begins text (one ∷ words) word rest h = (h.0, h.1, leads_begins h.0 words word rest h.2)

record_found : ReadsWhatStands → (text : List ℕ) (r : Record) → record_in text ≡ Ok r → IsRecordText text r
unfolding record_in
record_found law text r e =
    let a = bound_ok (or_fault BadName (next_word text)) _ r e in
    let b = bound_ok (or_fault BadName (named a.0.0)) _ r a.1.1 in
    let c = bound_ok (ttl_and_class (next_word a.0.1)) _ r b.1.1 in
    let d = bound_ok (or_fault BadType c.0.1) _ r c.1.1 in
    let f = bound_ok (or_fault BadType (type_in d.0.0)) _ r d.1.1 in
    let g = bound_ok (or_fault BadData (data_in f.0 d.0.1)) _ r f.1.1 in
    let same : record { owner = b.0; kind = f.0; ttl = c.0.0; body = g.0 } ≡ r = ok_same g.1.1 in
    let middle = ttl_and_class_found (next_word a.0.1) c.0 c.1.0 in
    let behind : c.0.1 ≡ Some (d.0.0, d.0.1) = or_fault-ok BadType c.0.1 d.0 d.1.0 in
    let leads : WordsLead (next_word a.0.1) middle.words (Some (d.0.0, d.0.1)) = subst (λ (f : First). WordsLead (next_word a.0.1) middle.words f) behind middle.leads in
    subst (λ (r : Record). IsRecordText text r) same (record {
      name = a.0.0;
      middle = middle.words;
      type = d.0.0;
      rest = d.0.1;
      parts = (a.0.1, or_fault-ok BadName (next_word text) a.0 a.1.0, leads_begins a.0.1 middle.words d.0.0 d.0.1 leads);
      owner = named_found law a.0.0 b.0 (or_fault-ok BadName (named a.0.0) b.0 b.1.0);
      ttl_and_class = middle.ttl_and_class;
      kind = or_fault-ok BadType (type_in d.0.0) f.0 f.1.0;
      body = data_in_found law f.0 d.0.1 g.0 (or_fault-ok BadData (data_in f.0 d.0.1) g.0 g.1.0);
    })

record_read : ReadsWhatStands → (text : List ℕ) (r : Record) → IsRecordText text r → record_in text ≡ Ok r
unfolding record_in
record_read law text r h =
    let parts = h.parts in
    let leads = begins_leads parts.0 h.middle h.type h.rest parts.2 in
    let plain : is_digits h.type ≡ false = type_no_digits h.type r.kind h.kind in
    let other : is_class h.type ≡ false = type_no_class h.type r.kind h.kind in
    rw parts.1 (rw (named_read law h.name r.owner h.owner)
    (rw (ttl_and_class_read (next_word parts.0) h.middle r.ttl h.type h.rest h.ttl_and_class leads plain other)
    (rw h.kind (rw (data_in_read law r.kind h.rest r.body h.body) refl))))

pub reads_records : ReadsWhatStands → ReadsRecords
reads_records law text r = (record_found law text r, record_read law text r)

-- ---- what the reader says

pub record_stands : ReadsRecords → (text : List ℕ) (r : Result Record TextFault) → Gives r (record_in text) → IfOk r (IsRecordText text)
record_stands law text (Ok r) given = (law text r).0 given
record_stands law text (Err fault) given = tt

pub record_every : ReadsRecords → (text : List ℕ) (given : Result Record TextFault) → Gives given (record_in text) → (r : Record) → IsRecordText text r → Gives given (Ok r)
record_every law text given said r h = subst (λ (s : Result Record TextFault). Gives given s) ((law text r).1 h) said
