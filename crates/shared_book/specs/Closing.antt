-- How a book is closed: whether the receipts that are handed in are those of the window.
use Rattle.std.specs.Prelude.{◌≡◌, ◌≢◌, ◌⊎◌, ℕ, ◌+◌, ◌<◌, ◌≤◌, Option, Some, None, List, ◌∷◌, ◌++◌, length, slice_get, filter, nat_le, IsPermutation}
use Rattle.std.specs.List.Sorted.{IsNonDecreasingBy, IsStableByKey}
use Rattle.std.specs.Ordering.{nat_cmp}
use Rattle.shared_book.specs.declared.receipt.Receipt.{Receipt}
use Rattle.shared_book.specs.declared.fault.CloseFault.{CloseFault}
use Rattle.shared_book.specs.declared.fault.CloseFault.TheVariants.{Missing, Mismatch, NoMemory}
use Rattle.shared_book.specs.Pass.{PassState, calls_of, parts_of}
use Rattle.shared_book.specs.Kept.{KeptState}

-- the receipts whose numbers are not behind this one, as handed in
abbrev pub numbered_from : ℕ → List Receipt → List Receipt
numbered_from first receipts = filter (λ r. nat_le first r.number) receipts

-- the same receipts in order of number, equal numbers as handed in
pub record IsInOrder (given sorted : List Receipt) : Type 0 where
  pub moved : IsPermutation given sorted
  pub rising : IsNonDecreasingBy (λ r. r.number) sorted
  pub stable : IsStableByKey (λ r. r.number) nat_cmp given sorted

-- Where the entries are numbered from `first`, this is the number of the first place whose receipt is not that entry.
pub record IsFirstOther (first number : ℕ) (receipts entries : List Receipt) : Type 0 where
  pub before : List Receipt
  pub receipt : Receipt
  pub later : List Receipt
  pub rest : List Receipt
  pub receipts_are : receipts ≡ before ++ receipt ∷ later
  pub entries_are : entries ≡ before ++ rest
  pub other : slice_get rest 0 ≢ Some receipt
  pub number_is : number ≡ first + length before

-- The passes count all calls, and there are as many receipts as the window has calls. Receipts of calls before the window do not count.
pub record IsComplete {B : Type 0} (kept : KeptState B) (passes : List PassState) (receipts : List Receipt) : Type 0 where
  pub gathered : calls_of passes ≡ kept.total
  pub handed_in : length kept.window ≤ length (numbered_from kept.first receipts)

-- The passes count so many calls less than were made. Or they count all, and there are so many receipts less than the window has calls.
abbrev pub IsMissing : {B : Type 0} → KeptState B → List PassState → List Receipt → ℕ → Type 0
IsMissing kept passes receipts count =
    (calls_of passes + count ≡ kept.total)
    ⊎ ((calls_of passes ≡ kept.total) × (length (numbered_from kept.first receipts) + count ≡ length kept.window))

-- The passes count no more calls than were made, and, where they have all the parts of the ledger, as many.
pub record IsGathered {B : Type 0} (parts : ℕ) (kept : KeptState B) (passes : List PassState) : Type 0 where
  pub within : calls_of passes ≤ kept.total
  pub whole : parts_of passes ≡ parts → calls_of passes ≡ kept.total

-- What closing comes to: its fault, or none. Up to 20 receipts are put in order with no memory.
abbrev pub ClosesAs : {B : Type 0} → KeptState B → List PassState → List Receipt → Option CloseFault → Type 0
ClosesAs kept passes receipts None = IsComplete kept passes receipts × IsInOrder (numbered_from kept.first receipts) kept.window
ClosesAs kept passes receipts (Some (Missing count)) = (0 < count) × IsMissing kept passes receipts count
ClosesAs kept passes receipts (Some (Mismatch number)) =
    IsComplete kept passes receipts
    × ((sorted : List Receipt) × IsInOrder (numbered_from kept.first receipts) sorted × IsFirstOther kept.first number sorted kept.window)
ClosesAs kept passes receipts (Some NoMemory) = IsComplete kept passes receipts × (20 < length (numbered_from kept.first receipts))

-- how a book is closed, of a ledger of so many parts, and what its passes count
pub record IsClosed {B : Type 0} (parts : ℕ) (kept : KeptState B) (passes : List PassState) (receipts : List Receipt) (fault : Option CloseFault) : Type 0 where
  pub verdict : ClosesAs kept passes receipts fault
  pub gathered : IsGathered parts kept passes

-- what closing comes to once the receipts are in order
abbrev pub IsOfOrder : Option CloseFault → Type 0
IsOfOrder None = Unit {0}
IsOfOrder (Some (Mismatch number)) = Unit {0}
IsOfOrder (Some _) = ⊥

-- They are the same, or one wants the memory by which the receipts are put in order for the other.
abbrev pub AgreeButMemory : Option CloseFault → Option CloseFault → Type 0
AgreeButMemory a b = (a ≡ b) ⊎ (((a ≡ Some NoMemory) × IsOfOrder b) ⊎ ((b ≡ Some NoMemory) × IsOfOrder a))

-- Two closings of one book with the same passes and receipts come to the same, or memory was short.
abbrev pub HasOneVerdict : Type 0 → Type 0
HasOneVerdict B = (kept : KeptState B) (passes : List PassState) (receipts : List Receipt) (a b : Option CloseFault) → ClosesAs kept passes receipts a → ClosesAs kept passes receipts b → AgreeButMemory a b
