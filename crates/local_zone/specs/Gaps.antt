-- Records that are taken out of a list, and put back in their places.
use Rattle.std.proofs.Common.{◌≡◌, ℕ, ◌+◌, ◌<◌, ◌≤◌, ◌⊎◌, Bool, cond, List, [], ◌∷◌, ◌++◌, length, map, take, drop}
use Rattle.std.specs.Prelude.{⊤, filter, not}
use Rattle.dns_name.specs.Labels.{Labels}
use Rattle.dns_text.specs.declared.record.Record.{Record}
use Rattle.local_zone.specs.declared.taken.Taken.{Taken}
use Rattle.local_zone.specs.Index.{of_owner}

-- the records that were taken out
abbrev pub records_of : List Taken → List Record
records_of taken = map (λ t. t.item) taken

-- the gaps before them
abbrev pub gaps_of : List Taken → List ℕ
gaps_of taken = map (λ t. t.gap) taken

-- the records put back: each after as many of those that stayed as its gap says
abbrev pub put_back : List Taken → List Record → List Record
put_back [] left = left
put_back (t ∷ more) left = take t.gap left ++ t.item ∷ put_back more (drop t.gap left)

-- the first record, with the gap before it
abbrev pub first_at : ℕ → List Record → List Taken
first_at gap [] = []
first_at gap (r ∷ rest) = (record { gap = gap; item = r }) ∷ []

-- the records at the gaps
abbrev pub at_gaps : List ℕ → List Record → List Taken
at_gaps [] records = []
at_gaps (gap ∷ more) records = first_at gap (drop gap records) ++ at_gaps more (drop 1 (drop gap records))

-- the others
abbrev pub rest_of : List ℕ → List Record → List Record
rest_of [] records = records
rest_of (gap ∷ more) records = take gap records ++ rest_of more (drop 1 (drop gap records))

-- Behind each gap there is a record.
abbrev pub AreWithin : List ℕ → List Record → Type 0
AreWithin [] records = ⊤
AreWithin (gap ∷ more) records = (gap < length records) × AreWithin more (drop 1 (drop gap records))

-- The records that stayed are as many as the gaps say, or more.
abbrev pub FitBetween : List Taken → List Record → Type 0
FitBetween [] left = ⊤
FitBetween (t ∷ more) left = (t.gap ≤ length left) × FitBetween more (drop t.gap left)

-- Each owner has records on one side alone.
abbrev pub AreApart : List Taken → List Record → Type 0
AreApart taken left = (owner : Labels) → (of_owner owner (records_of taken) ≡ []) ⊎ (of_owner owner left ≡ [])

-- the gaps before the records that pass a test, after so many that stay
abbrev pub gaps_where : (Record → Bool) → ℕ → List Record → List ℕ
gaps_where p gap [] = []
gaps_where p gap (r ∷ rest) = cond (p r) (gap ∷ gaps_where p 0 rest) (gaps_where p (gap + 1) rest)

-- A law: the records that stay are those that do not pass the test of the gaps.
abbrev pub GapsLeaveOthers : Type 0
GapsLeaveOthers = (p : Record → Bool) (records : List Record) → rest_of (gaps_where p 0 records) records ≡ filter (λ r. not (p r)) records

-- A law: records that are taken out go back to their places.
abbrev pub TakenGoBack : Type 0
TakenGoBack = (gaps : List ℕ) (records : List Record) → AreWithin gaps records → put_back (at_gaps gaps records) (rest_of gaps records) ≡ records
