-- Data of one type without duplicates, and the texts that identify them (RFC 2181, section 5).
use Rattle.std.specs.Prelude.{◌≡◌, ℕ, List, Some, Vec}
use Rattle.std.specs.BTreeSet.{BTreeSet, contains}
use Rattle.std.specs.Cmp.Lexicographic.{slice_cmp}
use Rattle.std.specs.Ordering.{nat_cmp}
use Rattle.std.specs.declared.cmp.Ordering.{Ordering}
use Rattle.dns_text.specs.Data.{data_in, data_text}
use Rattle.dns_text.specs.Equal.{data_eq}
use Rattle.dns_text.specs.declared.record.Data.{Data}
use Rattle.ranked.specs.Set.{is_among, with_datum}

-- A type, and data of that type.
pub record DataOf : Type 0 where
  pub kind : ℕ
  pub data_in : List Data

-- the data with one more datum at the end, unless it is there already
abbrev pub added : DataOf → Data → DataOf
added x datum = record { kind = x.kind; data_in = with_datum data_eq x.data_in datum }

-- The text of a datum of this type is read back as that datum.
abbrev pub ReadsBack : ℕ → Data → Type 0
ReadsBack kind datum = data_in kind (data_text datum) ≡ Some datum

-- the order of texts, octet by octet
abbrev pub text_cmp : {A : Type 0} → Vec ℕ A → Vec ℕ A → Ordering
text_cmp a b = slice_cmp nat_cmp a.items b.items

-- The set has the texts of exactly these data of the type.
abbrev pub HasTexts : {A : Type 0} → ℕ → BTreeSet (Vec ℕ A) → List Data → Type 0
HasTexts {A} kind texts known = (datum : Data) (text : Vec ℕ A) → ReadsBack kind datum → text.items ≡ data_text datum → contains text_cmp texts text ≡ is_among data_eq known datum
