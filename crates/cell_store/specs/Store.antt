-- The cells of all names.
use Rattle.std.specs.Prelude.{◌≡◌, ◌≢◌, ◌⊎◌, ◌+◌, ◌==◌, ◌&&◌, ◌++◌, ◌∷◌, [], List, length, ◌<◌, ◌≤◌, ◌^◌, ℕ, Bool, true, false, not, position, swap_remove, Option, Some, None, IfSome, slice_get}
use Rattle.indexmap.specs.IndexMap.{IndexMap, get, swap_remove_entry}
use Rattle.std.specs.Option.{option_map_or}
use Rattle.std.specs.List.{list_any, position_or_len}
use Rattle.std.specs.Map.{keys_of}
use Rattle.dns_name.specs.Labels.{Labels}
use Rattle.dns_name.specs.Order.{name_eq}
use Rattle.dns_name.specs.Below.{is_at_or_below}
use Rattle.dns_text.specs.declared.record.Question.{Question}
use Rattle.ranked.specs.declared.find.Find.{Find}
use Rattle.ranked.specs.declared.cell.Admitted.{Admitted}
use Rattle.ranked.specs.Find.{admission_of, touches}
use Rattle.cell_store.specs.declared.owner.OwnerCells.{OwnerCells}
use Rattle.cell_store.specs.Owner.{after_settle, after_touch, cell_in, IsUpTo, CanSettle}
use Rattle.cell_store.specs.Same.{same_cell}
use Rattle.cell_store.specs.Count.{count_of, has_place_for, one_if, pair_of, stored_in, AddPair, IsInUse, KeepPairs}

-- the content of a cell in a version, by the cells of its name
abbrev pub cell_by_owner : Option OwnerCells → ℕ → ℕ → Option (Admitted Find)
cell_by_owner cells kind v = option_map_or (λ own. cell_in own kind v) cells None

-- the content of the cell of a question in a version
abbrev pub cell_of : {S : Type 0} → IndexMap Labels OwnerCells S → Question → ℕ → Option (Admitted Find)
cell_of owners question v = cell_by_owner (get name_eq owners question.owner) question.kind v

-- whether two versions of a question have the same find from the same moment, or both have none
abbrev pub has_same_cell : {S : Type 0} → IndexMap Labels OwnerCells S → Question → ℕ → ℕ → Bool
has_same_cell owners question version other = same_cell (cell_of owners question version) (cell_of owners question other)

-- No admission has reached a version past this one.
abbrev pub AreUpTo : {S : Type 0} → ℕ → IndexMap Labels OwnerCells S → Type 0
AreUpTo top owners = (name : Labels) → IfSome (get name_eq owners name) (IsUpTo top)

-- No admission has reached a version past some one.
abbrev pub HaveTop : {S : Type 0} → IndexMap Labels OwnerCells S → Type 0
HaveTop owners = (top : ℕ) × AreUpTo top owners

-- A flush of a type of a name can become permanent with no memory.
abbrev pub CanSettleAt : {S : Type 0} → ℕ → ℕ → Labels → IndexMap Labels OwnerCells S → Type 0
CanSettleAt number kind name owners = IfSome (get name_eq owners name) (CanSettle number kind)

-- Each cell has only a find about its question.
abbrev pub AreAbout : {S : Type 0} → IndexMap Labels OwnerCells S → Type 0
AreAbout owners = (question : Question) (v : ℕ) → IfSome (cell_of owners question v) (λ held. touches held.body question ≡ true)

-- Each cell of each name has the same content in every version.
abbrev pub AreSameCells : {S : Type 0} → IndexMap Labels OwnerCells S → IndexMap Labels OwnerCells S → Type 0
AreSameCells old new = (question : Question) (v : ℕ) → cell_of new question v ≡ cell_of old question v

-- Every flush of a type of a name that could become permanent with no memory still can.
abbrev pub KeepSettling : {S : Type 0} → IndexMap Labels OwnerCells S → IndexMap Labels OwnerCells S → Type 0
KeepSettling old new = (number kind : ℕ) (name : Labels) → CanSettleAt number kind name old → CanSettleAt number kind name new

-- Admissions have reached no version past those that they had reached.
abbrev pub KeepUpTo : {S : Type 0} → IndexMap Labels OwnerCells S → IndexMap Labels OwnerCells S → Type 0
KeepUpTo old new = (top : ℕ) → AreUpTo top old → AreUpTo top new

-- No place counts that did not. Admissions have reached no version past those that they had reached, and each flush that could become permanent with no memory still can.
pub record GainNothing {S : Type 0} (old new : IndexMap Labels OwnerCells S) : Type 0 where
  pub upto : KeepUpTo old new
  pub settles : KeepSettling old new
  pub pairs : KeepPairs old new

-- Each name that is left has the cells that it had.
abbrev pub AreLeft : {S : Type 0} → IndexMap Labels OwnerCells S → IndexMap Labels OwnerCells S → Type 0
AreLeft old new = (name : Labels) → IfSome (get name_eq new name) (λ cells. get name_eq old name ≡ Some cells)

-- Some place of the name at a place counts, if there is one.
abbrev pub IsCountedAt : ℕ → List (Labels × OwnerCells) → Type 0
IsCountedAt place entries = IfSome (slice_get entries place) (λ entry. 1 ≤ count_of entry.1)

-- The name at a place is in use, if there is one.
abbrev pub IsInUseAt : ℕ → List (Labels × OwnerCells) → Type 0
IsInUseAt place entries = IfSome (slice_get entries place) (λ entry. IsInUse entry.1)

-- The name at a place has gone, and the last is in its place; or it stays, and some place of it counts.
abbrev pub IsDroppedAt : ℕ → List (Labels × OwnerCells) → List (Labels × OwnerCells) → Bool → Type 0
IsDroppedAt place old new true = (d : Labels × OwnerCells) × (new ≡ swap_remove old place d)
IsDroppedAt place old new false = (new ≡ old) × IsCountedAt place old

-- Each name from a place on has a place that counts.
abbrev pub AreCountedFrom : {S : Type 0} → ℕ → IndexMap Labels OwnerCells S → Type 0
AreCountedFrom place owners = (i : ℕ) → place ≤ i → IsCountedAt i owners.entries

-- Each name has a place that counts, and each column counts unless it may hide a find of the whole name.
abbrev pub EachCounts : List (Labels × OwnerCells) → Type 0
EachCounts entries = (i : ℕ) → IsInUseAt i entries

-- the place of a name among the entries, or their number if it is not there
abbrev pub name_place : Labels → List (Labels × OwnerCells) → ℕ
name_place name entries = position_or_len (name_eq name) (keys_of entries)

-- The entries of all names but one are as they were. That name keeps its place, or is new and gets the last.
pub record StayBut (name : Labels) (old new : List (Labels × OwnerCells)) : Type 0 where
  pub others : (i : ℕ) → i ≢ name_place name old → slice_get new i ≡ slice_get old i
  pub size : (length new ≡ length old) ⊎ ((name_place name old ≡ length old) × (length new ≡ length old + 1))
  pub names : (keys_of new ≡ keys_of old) ⊎ (keys_of new ≡ keys_of old ++ name ∷ [])

-- Each name keeps its place, and the entries of all places but one are as they were.
pub record StayButAt (place : ℕ) (old new : List (Labels × OwnerCells)) : Type 0 where
  pub others : (i : ℕ) → i ≢ place → slice_get new i ≡ slice_get old i
  pub names : keys_of new ≡ keys_of old

-- Each name keeps its place, and the entries of all names but one are as they were.
pub record KeepNames (name : Labels) (old new : List (Labels × OwnerCells)) : Type 0 where
  pub others : StayBut name old new
  pub size : length new ≡ length old
  pub names : keys_of new ≡ keys_of old

-- Only columns without a find came: each cell is as it was, the same places count, and each flush that could become permanent with no memory still can. No admission has reached a version past this one.
pub record OpenColumns {S : Type 0} (top : ℕ) (old new : IndexMap Labels OwnerCells S) : Type 0 where
  pub cells : AreSameCells old new
  pub upto : AreUpTo top new
  pub settles : KeepSettling old new
  pub counted : stored_in new ≡ stored_in old
  pub pairs : KeepPairs old new
  pub named : EachCounts old.entries → EachCounts new.entries

-- A find was admitted: each version up to this one has it for each question that it is about, unless the content there outranks it.
abbrev pub HaveAdmission : {S : Type 0} → ℕ → Find → ℕ → IndexMap Labels OwnerCells S → IndexMap Labels OwnerCells S → Type 0
HaveAdmission top find moment old new = (question : Question) (v : ℕ) → v ≤ top →
    cell_of new question v ≡ after_touch (touches find question) (cell_of old question v) (admission_of find find moment)

-- As many places count as it says: at most that of a find more than before. The entries of all names but its owner are as they were.
pub record AddAtMost {S : Type 0} (find : Find) (stored : ℕ) (old : IndexMap Labels OwnerCells S) (stored' : ℕ) (new : IndexMap Labels OwnerCells S) : Type 0 where
  pub counted : stored' ≡ stored_in new
  pub most : stored' ≤ stored + one_if (not (has_place_for old find))
  pub pairs : AddPair (pair_of find) old new
  pub others : StayBut find.owner old.entries new.entries

-- A flush of some types of a name is permanent: each version before it has the content of the flush's own version.
abbrev pub AreSettled : {S : Type 0} → Labels → List ℕ → ℕ → IndexMap Labels OwnerCells S → IndexMap Labels OwnerCells S → Type 0
AreSettled name kinds number old new = (question : Question) (v : ℕ) →
    cell_of new question v ≡ cell_of old question (after_settle (name_eq name question.owner && list_any (λ kind. kind == question.kind) kinds) number v)

-- A flush of every type at or below a zone is permanent in the cells of the name at a place.
abbrev pub AreSettledAt : {S : Type 0} → ℕ → Labels → ℕ → IndexMap Labels OwnerCells S → IndexMap Labels OwnerCells S → Type 0
AreSettledAt place zone number old new = (top : ℕ) → AreUpTo top old → (question : Question) (v : ℕ) →
    cell_of new question v ≡ cell_of old question (after_settle (name_place question.owner old.entries == place && is_at_or_below question.owner zone) number v)

-- The name at a place, if there is one, is at or below a zone just if it says so.
abbrev pub IsBelowAt : ℕ → Labels → List (Labels × OwnerCells) → Bool → Type 0
IsBelowAt place zone entries below = IfSome (slice_get entries place) (λ entry. below ≡ is_at_or_below entry.0 zone)

-- The counted places are as many as it says, and no admission has reached a version past `top`.
pub record IsIndex {S : Type 0} (top stored : ℕ) (owners : IndexMap Labels OwnerCells S) : Type 0 where
  pub upto : AreUpTo top owners
  pub counted : stored ≡ stored_in owners
  pub few : stored < 2 ^ 63

-- These are the cells of whichever name a look-up found at the place.
abbrev pub AreCellsAt : {S : Type 0} → IndexMap Labels OwnerCells S → Option ℕ → Option OwnerCells → Type 0
AreCellsAt owners place cells = (name : Labels) → place ≡ position (name_eq name) (keys_of owners.entries) → cells ≡ get name_eq owners name

-- If the name is not covered, its cells and the number of counted places are as they were.
abbrev pub StayUnless : {S : Type 0} → Bool → IndexMap Labels OwnerCells S → ℕ → IndexMap Labels OwnerCells S → ℕ → Type 0
StayUnless covered old stored new stored' = covered ≡ false → (new ≡ old) × (stored' ≡ stored)

-- The name has gone, and the last name is in its place.
abbrev pub HasGone : {S : Type 0} → Labels → IndexMap Labels OwnerCells S → IndexMap Labels OwnerCells S → Type 0
HasGone owner old new = (get name_eq new owner ≡ None) × (new.entries ≡ swap_remove_entry (name_eq owner) old.entries)

-- As many fewer places count as the name had, if it had cells.
abbrev pub CountsFewerBy : {S : Type 0} → Labels → IndexMap Labels OwnerCells S → ℕ → ℕ → Type 0
CountsFewerBy owner old stored stored' = (stored' ≤ stored) × IfSome (get name_eq old owner) (λ cells. stored' + count_of cells ≡ stored)
