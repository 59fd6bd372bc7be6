-- The records of a set on the other side of a change, and whether an owner has any there.
use Rattle.std.specs.Prelude.{◌≡◌, ℕ, Bool, List, [], ◌∷◌, ◌++◌, length, Option, Some, None}
use Rattle.std.specs.Borrow.{Bor}
use Rattle.dns_name.specs.Labels.{Labels}
use Rattle.dns_text.specs.declared.record.Record.{Record}
use Rattle.local_zone.specs.declared.added.Added.{Added as AddedRecord}
use Rattle.local_zone.specs.declared.added.RecordTurn.TheVariants.{Added}
use Rattle.local_zone.specs.declared.taken.Taken.{Taken}
use Rattle.local_zone.specs.Added.{records_before, GoesBack}
use Rattle.local_zone.specs.Answer.{has_record}
use Rattle.local_zone.specs.Change.{records_with}
use Rattle.local_zone.specs.Gaps.{put_back, AreApart}
use Rattle.local_zone.specs.Index.{of_owner}
use Rattle.local_zone.specs.Show.{set_of}

-- the records, with one behind them if there is one
abbrev pub with_last : List Record → Option (Bor Record) → List Record
with_last records None = records
with_last records (Some new) = records ++ new.now ∷ []

-- ---- from the set on this side, which is `own`

-- The set is the one without a record that was added.
abbrev pub IsSetBefore : AddedRecord → Labels → ℕ → List Record → List Record → Type 0
IsSetBefore added owner kind own set =
    (records : List Record) → GoesBack (Added added) records → own ≡ set_of owner kind records → set ≡ set_of owner kind (records_before added records)

-- The set is the one with a record that is added.
abbrev pub IsSetWith : Record → Labels → ℕ → List Record → List Record → Type 0
IsSetWith new owner kind own set = (records : List Record) → own ≡ set_of owner kind records → set ≡ set_of owner kind (records_with new records)

-- The set is the one with the records that come back.
abbrev pub IsSetBack : List Taken → Labels → ℕ → List Record → List Record → Type 0
IsSetBack removed owner kind own set =
    (records : List Record) → AreApart removed records → own ≡ set_of owner kind records → set ≡ set_of owner kind (put_back removed records)

-- ---- from the number of records of an owner on this side

-- This says whether the owner has a record, without one that was added.
abbrev pub SaysIfHasBefore : AddedRecord → Labels → ℕ → Bool → Type 0
SaysIfHasBefore added owner count has =
    (records : List Record) → GoesBack (Added added) records → count ≡ length (of_owner owner records) → has ≡ has_record owner (records_before added records)

-- This says whether the owner has a record, with one that is added.
abbrev pub SaysIfHasWith : Record → Labels → ℕ → Bool → Type 0
SaysIfHasWith new owner count has = (records : List Record) → count ≡ length (of_owner owner records) → has ≡ has_record owner (records_with new records)

-- This says whether the owner has a record, with those that come back.
abbrev pub SaysIfHasBack : List Taken → Labels → ℕ → Bool → Type 0
SaysIfHasBack removed owner count has = (records : List Record) → count ≡ length (of_owner owner records) → has ≡ has_record owner (put_back removed records)
