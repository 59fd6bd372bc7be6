-- The replay of a shelf: its admissions and flushes in order, and the cells that they give.
use Rattle.std.specs.Prelude.{ℕ, Bool, true, false, ◌++◌, ◌+◌, ◌==◌, ◌&&◌, ◌≡◌, ◌≤◌, ◌<◌, ◌^◌, length, map, vec_capacity, List, [], ◌∷◌, Option, None, fold, if◌then◌else◌}
use Rattle.std.specs.List.{AllByRecursion}
use Rattle.dns_name.specs.Labels.{Labels}
use Rattle.dns_name.specs.Order.{name_eq}
use Rattle.dns_text.specs.declared.record.Question.{Question}
use Rattle.ranked.specs.declared.find.Find.{Find}
use Rattle.ranked.specs.declared.cell.Admitted.{Admitted}
use Rattle.ranked.specs.declared.cell.Shown.{Shown}
use Rattle.ranked.specs.Cell.{after_admission, shown_at}
use Rattle.ranked.specs.Find.{touches, admission_of}
use Rattle.indexmap.specs.IndexMap.{IndexMap}
use Rattle.cell_store.specs.declared.owner.OwnerCells.{OwnerCells}
use Rattle.cell_store.specs.Store.{AreAbout, AreUpTo, CanSettleAt, EachCounts}
use Rattle.cell_store.specs.Count.{pair_of, stored_in, AddPair, KeepPairs}
use Rattle.cell_store.specs.Owner.{after_touch}
use Rattle.ranked.specs.declared.flush.Flush.{Flush}
use Rattle.ranked.specs.declared.flush.Reach.{Reach}
use Rattle.ranked.specs.declared.flush.Reach.TheVariants.{OneType, Name, Zone}
use Rattle.shelf.specs.declared.shelf.KeptFlush.{KeptFlush}
use Rattle.shelf.specs.declared.shelf.Shelf.{Shelf}
pub use Rattle.shelf.specs.Kept.{is_kept, is_version}
use Rattle.shelf.specs.Kept.{stands_first, turned_over, with_shown}
use Rattle.shelf.specs.Clean.{AreEnds}
use Rattle.shelf.specs.Settling.{most_left, reached_at_once, settled_by, settled_cell, AreUseful, HasJoined, HaveEnded, HaveStepped, IsSettling}
use Rattle.ranked.specs.Flush.{covers, flushed_types}

-- an admission of a find at a moment, or a flush with its number
pub data Told : Type 0 where
  admitted : Find → ℕ → Told
  flushed : Flush → ℕ → Told

-- the content of a cell after one of these: a find about the question is cached unless it is outranked, and a chosen flush that covers it empties the cell
abbrev pub told_after : Question → (ℕ → Bool) → Option (Admitted Find) → Told → Option (Admitted Find)
told_after question chosen cell (admitted find moment) = if touches find question then after_admission cell (admission_of find find moment) else cell
told_after question chosen cell (flushed flush number) = if covers flush question && chosen number then None else cell

-- the content of the cell of a question, by a replay from nothing
abbrev pub cell_by : Question → (ℕ → Bool) → List Told → Option (Admitted Find)
cell_by question chosen told = fold (told_after question chosen) None told

-- the choice of one flush; number 0 is that of no flush
abbrev pub only : ℕ → ℕ → Bool
only version number = version == number

-- the version so far, or that of a flush if it is in force and covers the question
abbrev pub later_shown : Question → ℕ → KeptFlush → ℕ
later_shown question version own = if own.shown && covers own.flush question then own.number else version

-- the version in force of a question: the number of the last flush in force that covers it, or 0
abbrev pub shown_version : List KeptFlush → Question → ℕ
shown_version kept question = fold (later_shown question) 0 kept

-- the content of the cell of a question in a version
abbrev pub cell_at : Shelf → Question → ℕ → Option (Admitted Find)
cell_at shelf question v = settled_cell shelf.settlings.items shelf.owners question v

-- the content of the cell of a question, by the flushes in force
abbrev pub shown_cell : Shelf → Question → Option (Admitted Find)
shown_cell shelf question = cell_at shelf question (shown_version shelf.kept.items question)

-- the content of the cell of a question by a replay, with the flushes in force
abbrev pub replayed_cell : List KeptFlush → Question → List Told → Option (Admitted Find)
replayed_cell kept question told = cell_by question (only (shown_version kept question)) told

-- Numbers ascend.
abbrev pub IsAscending : List KeptFlush → Type 0
IsAscending [] = Unit {0}
IsAscending (own ∷ later) = AllByRecursion (λ other. own.number < other.number) later × IsAscending later

-- the types of the cells that a flush of one name empties
abbrev pub types_of : Reach → List ℕ
types_of (OneType kind) = kind ∷ []
types_of Name = flushed_types
types_of Zone = []

-- A flush can become permanent with no memory.
abbrev pub CanSettleFlush : {S : Type 0} → IndexMap Labels OwnerCells S → ℕ → Flush → Type 0
CanSettleFlush owners number flush = AllByRecursion (λ kind. CanSettleAt number kind flush.name owners) (types_of flush.reach)

-- No admission has reached a version past the greatest number, and each cell has only a find about its question. Each kept flush can become permanent with no memory. The places that count are counted, and are at most the limit. No name needs a sweep before its end. Each permanent flush has reached each name from its place on, and none is outdone by a later one. One of them has each name left that a flush left in doubt. There is room for each kept flush to become permanent. Each name of the index has a place that counts, and each of its columns counts unless a find of the whole name is cached.
pub record IsShelf (shelf : Shelf) : Type 0 where
  pub upto : AreUpTo shelf.top shelf.owners
  pub about : AreAbout shelf.owners
  pub numbers : AllByRecursion (λ own. own.number ≤ shelf.top) shelf.kept.items
  pub ascending : IsAscending shelf.kept.items
  pub settles : AllByRecursion (λ own. CanSettleFlush shelf.owners own.number own.flush) shelf.kept.items
  pub counted : shelf.stored ≡ stored_in shelf.owners
  pub few : shelf.stored ≤ shelf.limit
  pub small : shelf.limit ≤ 2 ^ 62
  pub room : length shelf.kept.items ≤ vec_capacity shelf.numbers
  pub ends : AreEnds shelf.kept.items shelf.owners.entries shelf.ends
  pub settling : AllByRecursion (IsSettling shelf.top shelf.owners) shelf.settlings.items
  pub space : length shelf.settlings.items + length shelf.kept.items ≤ vec_capacity shelf.settlings
  pub named : EachCounts shelf.owners.entries
  pub useful : AreUseful shelf.settlings.items
  pub doubt : shelf.ends.left ≤ most_left shelf.settlings.items

-- the version so far, or that of a flush if it is chosen and covers the question
abbrev pub later_chosen : Question → (ℕ → Bool) → ℕ → KeptFlush → ℕ
later_chosen question chosen version own = if chosen own.number && covers own.flush question then own.number else version

-- the version of a question by a choice: the number of the last chosen flush that covers it, or 0
abbrev pub chosen_version : List KeptFlush → Question → (ℕ → Bool) → ℕ
chosen_version kept question chosen = fold (later_chosen question chosen) 0 kept

-- the content of the cell of a question, if only the chosen ones of the kept flushes were in force
abbrev pub face_of : Shelf → (ℕ → Bool) → Question → Option (Admitted Find)
face_of shelf chosen question = cell_at shelf question (chosen_version shelf.kept.items question chosen)

-- the kept flushes without that of a number
abbrev pub without : ℕ → List KeptFlush → List KeptFlush
without number [] = []
without number (own ∷ later) = if own.number == number then later else own ∷ without number later

-- Each version of each question is that of the replay in which the version's flush alone is in force.
abbrev pub IsShelfOf : Shelf → List Told → Type 0
IsShelfOf shelf told = (question : Question) (version : ℕ) → is_version shelf.kept.items question version ≡ true → cell_at shelf question version ≡ cell_by question (only version) told

-- A shelf replies to every question as another does, whatever choice of the kept flushes is in force. Each place that counts did so before.
pub record IsSame (old new : Shelf) : Type 0 where
  pub cells : (told : List Told) → IsShelfOf old told → IsShelfOf new told
  pub faces : (chosen : ℕ → Bool) (question : Question) → face_of new chosen question ≡ face_of old chosen question
  pub kept : new.kept.items ≡ old.kept.items
  pub top : new.top ≡ old.top
  pub stored : new.stored ≡ old.stored
  pub pairs : KeepPairs old.owners new.owners

-- The same flushes can be undone or redone, under the same limit.
abbrev pub KeepsFlushes : Shelf → Shelf → Type 0
KeepsFlushes old new = (new.kept.items ≡ old.kept.items) × (new.top ≡ old.top) × (new.limit ≡ old.limit)

-- The cache holds nothing, keeps no flush and stores nothing, under a limit.
pub record IsEmptyShelf (most : ℕ) (shelf : Shelf) : Type 0 where
  pub cells : IsShelfOf shelf []
  pub whole : IsShelf shelf
  pub kept : shelf.kept.items ≡ []
  pub top : shelf.top ≡ 0
  pub stored : shelf.stored ≡ 0
  pub limit : shelf.limit ≡ most

-- The cache lost something at most: it keeps the same flushes under the same limit, and no place counts that did not. No more places count than before.
pub record LosesOnly (old new : Shelf) : Type 0 where
  pub whole : IsShelf new
  pub flushes : KeepsFlushes old new
  pub stored : new.stored ≤ old.stored
  pub pairs : KeepPairs old.owners new.owners

-- The flag of the flush of a number was set so, and nothing else has changed: each version of each question is as it was, whatever choice of the kept flushes is in force.
pub record TurnsFlush (number : ℕ) (shown : Bool) (old new : Shelf) : Type 0 where
  pub cells : (told : List Told) → IsShelfOf old told → IsShelfOf new told
  pub faces : (chosen : ℕ → Bool) (question : Question) → face_of new chosen question ≡ face_of old chosen question
  pub kept : new.kept.items ≡ map (with_shown number shown) old.kept.items
  pub top : new.top ≡ old.top
  pub limit : new.limit ≡ old.limit
  pub stored : new.stored ≡ old.stored
  pub owners : new.owners ≡ old.owners

-- If the flush of a number is chosen, or if it is not, each cell shows what it did, whatever choice of the other flushes is in force.
abbrev pub ShowsSameIf : ℕ → Bool → Shelf → Shelf → Type 0
ShowsSameIf number on old new =
    (chosen : ℕ → Bool) → chosen number ≡ on → (q : Question) → face_of new chosen q ≡ face_of old chosen q

-- A name has gone: whatever choice of the kept flushes is in force, each cell of it is empty, and the others show what they did.
abbrev pub ForgetsName : Labels → Shelf → Shelf → Type 0
ForgetsName owner old new =
    (chosen : ℕ → Bool) (q : Question) → face_of new chosen q ≡ (if name_eq owner q.owner then None else face_of old chosen q)

-- The kept flush of a number has gone: it is permanent if it was the oldest and in force. Else it is as if it had never been. No place counts that did not, and no more do than before.
pub record LetsGo (number : ℕ) (old new : Shelf) : Type 0 where
  pub whole : IsShelf new
  pub faces : ShowsSameIf number (stands_first number old.kept.items) old new
  pub kept : new.kept.items ≡ without number old.kept.items
  pub top : new.top ≡ old.top
  pub limit : new.limit ≡ old.limit
  pub stored : new.stored ≤ old.stored
  pub pairs : KeepPairs old.owners new.owners

-- The kept flush of a number, the oldest and in force, is permanent, and the first permanent flush has taken some steps since.
abbrev pub HasSteppedSince : ℕ → Shelf → Shelf → Type 0
HasSteppedSince number old new =
    stands_first number old.kept.items ≡ true → HaveStepped reached_at_once (settled_by number old) new.settlings.items

-- The kept flush of a number, younger or undone, was dropped, and no permanent flush has reached a name since: the first one has taken some steps if it only ends names in doubt.
abbrev pub HasEndedSince : ℕ → Shelf → Shelf → Type 0
HasEndedSince number old new = stands_first number old.kept.items ≡ false → HaveEnded (settled_by number old) new.settlings.items

-- The oldest kept flush is permanent: with it in force, each cell shows what it did, whatever choice of the others is.
abbrev pub ShowsOldest : Shelf → Shelf → Type 0
ShowsOldest old new = (own : KeptFlush) (later : List KeptFlush) (chosen : ℕ → Bool) → old.kept.items ≡ own ∷ later → chosen own.number ≡ true →
    (question : Question) → face_of new chosen question ≡ face_of old chosen question

-- The oldest kept flush has joined the permanent ones.
abbrev pub JoinsOldest : Shelf → Shelf → Type 0
JoinsOldest old new = (own : KeptFlush) (later : List KeptFlush) → old.kept.items ≡ own ∷ later →
    HasJoined own.flush own.number old.owners old.settlings.items new.settlings.items

-- A find is what a question shows at a moment, by the flushes in force.
abbrev pub IsShown : Shelf → Labels → ℕ → ℕ → Option (Shown Find) → Type 0
IsShown shelf owner kind t held = held ≡ shown_at (shown_cell shelf (record { owner = owner; kind = kind })) t

-- It is what a replay shows of the admissions and flushes so far.
abbrev pub IsReplayed : Shelf → Labels → ℕ → ℕ → Option (Shown Find) → Type 0
IsReplayed shelf owner kind t held =
    (told : List Told) → IsShelfOf shelf told → held ≡ shown_at (replayed_cell shelf.kept.items (record { owner = owner; kind = kind }) told) t

-- the content of the cell of a question, if the flush of a number were turned over
abbrev pub cell_over : ℕ → Shelf → Question → Option (Admitted Find)
cell_over number shelf question = cell_at shelf question (shown_version (map (turned_over number) shelf.kept.items) question)

-- A find was admitted: to the replay, and to each cell that it is about, whatever choice of the kept flushes is in force. Each place that counts did so before, or is that of the find.
pub record HasAdmitted (find : Find) (moment : ℕ) (old new : Shelf) : Type 0 where
  pub cells : (told : List Told) → IsShelfOf old told → IsShelfOf new (told ++ admitted find moment ∷ [])
  pub faces : (chosen : ℕ → Bool) (question : Question) →
      face_of new chosen question ≡ after_touch (touches find question) (face_of old chosen question) (admission_of find find moment)
  pub pairs : AddPair (pair_of find) old.owners new.owners

-- A flush was made and is kept under its number. If it is chosen, the cells that it covers are empty. Each place that counts did so before.
pub record HasFlushed (flush : Flush) (number : ℕ) (old new : Shelf) : Type 0 where
  pub cells : (told : List Told) → IsShelfOf old told → IsShelfOf new (told ++ flushed flush number ∷ [])
  pub kept : new.kept.items ≡ old.kept.items ++ record { flush = flush; number = number; shown = true } ∷ []
  pub faces : (chosen : ℕ → Bool) (question : Question) →
      face_of new chosen question ≡ (if chosen number && covers flush question then None else face_of old chosen question)
  pub top : new.top ≡ number
  pub pairs : KeepPairs old.owners new.owners
