-- Types and their names.
use Rattle.std.proofs.Common.{◌≡◌, ℕ, ◌+◌, ◌<◌, ◌^◌, Bool, true, false, List, [], ◌∷◌, length, get_or, drop, map, Option, Some, None, refl, sym, ap, subst, ◌∙◌, arith, add-one, drop-cons, inl, inr, nat_lt}
use Rattle.std.specs.Prelude.{◌==◌, ◌&&◌, not, decimal}
use Rattle.std.specs.Str.{str_eq_ignore_ascii_case}
use Rattle.std.specs.List.{list_all}
use Rattle.std.proofs.lemmas.Bool.{cases_Bool, and_parts, eqb-true, not-true}
use borrow.Author.Tests.{ltb-true}
use Rattle.dns_name.specs.ResultLaws.{some_same}
use Rattle.dns_text.specs.declared.word.Within.{Within}
use Rattle.dns_text.specs.declared.word.Within.TheVariants.{Plain, Quotes, Escape, QuotedEscape}
use Rattle.dns_text.specs.Kind.{KindRow, types, by_number, by_name, type_number, number_or, is_excluded, name_or_number, type_in, type_text}
use Rattle.dns_text.specs.Record.{is_class}
use Rattle.dns_text.proofs.NumberLaws.{digits-decimal, short_number_in-decimal}
use Rattle.dns_text.proofs.WordLaws.{scanned, IsWord, joined_scanned, digits_scanned}

-- a table's entry that has another name
pub by_name_other : {X : Type 0} (f : X → KindRow) (word : List ℕ) (items : List X) (i : ℕ) (d : X) → i < length items → str_eq_ignore_ascii_case (f (get_or items i d)).1 word ≡ false → by_name word (map f (drop (i + 1) items)) ≡ by_name word (map f (drop i items))
unfolding by_name
by_name_other f word items i d h e =
    let here : map f (drop i items) ≡ f (get_or items i d) ∷ map f (drop (i + 1) items) = rw (add-one, drop-cons items i d) refl in
    sym (ap (by_name word) here ∙ rw e refl)

-- ---- what is written is read back

is_number : ℕ → Option KindRow → Bool
is_number n None = false
is_number n (Some t) = t.0 == n

is_closed : Option Within → Bool
is_closed (Some Plain) = true
is_closed _ = false

-- an entry's name is a word, and finds an entry of its number
reads_back : KindRow → Bool
reads_back t = is_number t.0 (by_name t.1 types) && (is_closed (scanned Plain t.1) && nat_lt 0 (length t.1))

all_read_back : list_all reads_back types ≡ true
unfolding reads_back is_number is_closed by_name scanned
all_read_back = refl

found_entry : (table : List KindRow) (kind : ℕ) (t : KindRow) → list_all reads_back table ≡ true → by_number kind table ≡ Some t → (reads_back t ≡ true) × (t.0 ≡ kind)
unfolding by_number
found_entry [] kind t all e = absurd cc
found_entry (s ∷ table) kind t all e = elim (cases_Bool (s.0 == kind)) [
  | inl same ↦ let parts = and_parts _ _ all in let here : s ≡ t = some_same (rw same at e) in (subst (λ (x : KindRow). reads_back x ≡ true) here parts.0, ap (λ (x : KindRow). x.0) (sym here) ∙ eqb-true s.0 kind same)
  | inr other ↦ let parts = and_parts _ _ all in found_entry table kind t parts.1 (rw other at e)
]

named_entry : (o : Option KindRow) (n : ℕ) (other : Option ℕ) → is_number n o ≡ true → number_or other o ≡ Some n
unfolding is_number
named_entry None n other e = absurd cc
named_entry (Some t) n other e = ap (λ (k : ℕ). let o : Option ℕ = Some k in o) (eqb-true t.0 n e)

closed_word : (o : Option Within) → is_closed o ≡ true → o ≡ Some Plain
unfolding is_closed
closed_word None e = absurd cc
closed_word (Some Plain) e = refl
closed_word (Some Quotes) e = absurd cc
closed_word (Some Escape) e = absurd cc
closed_word (Some QuotedEscape) e = absurd cc

type_by_name : (digits : List ℕ) → by_name (84 ∷ 89 ∷ 80 ∷ 69 ∷ digits) types ≡ None
unfolding by_name
type_by_name digits = refl

-- what a type is written as
pub record ReadsBack (kind : ℕ) (word : List ℕ) : Type 0 where
  pub is_word : IsWord word
  pub value : number_or (type_number word) (by_name word types) ≡ Some kind

type_scanned : scanned Plain (84 ∷ 89 ∷ 80 ∷ 69 ∷ []) ≡ Some Plain
unfolding scanned
type_scanned = refl

back : (t : KindRow) (kind : ℕ) → t.0 ≡ kind → reads_back t ≡ true → ReadsBack kind t.1
unfolding reads_back
back t kind same h =
    let parts = and_parts _ _ h in
    let more = and_parts _ _ parts.1 in
    record {
      is_word = record { some = ltb-true 0 (length t.1) more.1; closed = closed_word (scanned Plain t.1) more.0 };
      value = named_entry (by_name t.1 types) t.0 (type_number t.1) parts.0 ∙ ap (λ (k : ℕ). let o : Option ℕ = Some k in o) same;
    }

text_reads_back : (kind : ℕ) (o : Option KindRow) → kind < 65536 → by_number kind types ≡ o → ReadsBack kind (name_or_number kind o)
text_reads_back kind None small e =
    let far : kind < 2 ^ 64 = omega arith in
    record {
      is_word = record { some = omega arith; closed = joined_scanned (84 ∷ 89 ∷ 80 ∷ 69 ∷ []) (decimal kind) type_scanned (digits_scanned (decimal kind) (digits-decimal kind far)) };
      value = rw (type_by_name (decimal kind)) (short_number_in-decimal 65535 kind (omega arith) far);
    }
text_reads_back kind (Some t) small e = let found = found_entry types kind t all_read_back e in back t kind found.1 found.0

pub type_is_word : (kind : ℕ) → kind < 65536 → IsWord (type_text kind)
type_is_word kind small = (text_reads_back kind (by_number kind types) small refl).is_word

pub type_in-type_text : (kind : ℕ) → kind < 65536 → is_excluded kind ≡ false → type_in (type_text kind) ≡ Some kind
unfolding type_in
type_in-type_text kind small fit = rw ((text_reads_back kind (by_number kind types) small refl).value) (rw fit refl)

-- no type is written as the class
is_other : KindRow → Bool
is_other t = not (is_class t.1)

all_other : list_all is_other types ≡ true
unfolding is_other
all_other = refl

entry_is_other : (table : List KindRow) (kind : ℕ) (t : KindRow) → list_all is_other table ≡ true → by_number kind table ≡ Some t → is_class t.1 ≡ false
unfolding by_number is_other
entry_is_other [] kind t all e = absurd cc
entry_is_other (s ∷ table) kind t all e = elim (cases_Bool (s.0 == kind)) [
  | inl same ↦ let parts = and_parts _ _ all in let here : s ≡ t = some_same (rw same at e) in subst (λ (x : KindRow). is_class x.1 ≡ false) here (not-true _ parts.0)
  | inr other ↦ let parts = and_parts _ _ all in entry_is_other table kind t parts.1 (rw other at e)
]

text_is_other : (kind : ℕ) (o : Option KindRow) → by_number kind types ≡ o → is_class (name_or_number kind o) ≡ false
text_is_other kind None e = refl
text_is_other kind (Some t) e = entry_is_other types kind t all_other e

pub type_is_no_class : (kind : ℕ) → is_class (type_text kind) ≡ false
type_is_no_class kind = text_is_other kind (by_number kind types) refl
