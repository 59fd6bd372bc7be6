-- How much a shelf stores: at most the different pairs of its admissions, and at least those of the finds that are alive in some version.
use Rattle.std.specs.Prelude.{◌≡◌, ◌≤◌, ◌++◌, ◌&&◌, ℕ, Bool, true, false, is_some, length, sum_by, List, [], ◌∷◌, Some, Result, IsOk, IsErrOf, if◌then◌else◌}
use Rattle.std.specs.List.{AllByRecursion}
use Rattle.std.specs.Set.{distinct_count, is_member}
use Rattle.dns_name.specs.Labels.{Labels}
use Rattle.dns_name.specs.Order.{name_eq}
use Rattle.dns_text.specs.declared.record.Question.{Question}
use Rattle.ranked.specs.declared.find.Find.{Find}
use Rattle.ranked.specs.declared.find.Scope.{Scope}
use Rattle.ranked.specs.declared.flush.Flush.{Flush}
use Rattle.ranked.specs.Find.{has_kind}
use Rattle.ranked.specs.declared.cell.Admitted.{Admitted}
use Rattle.cell_store.specs.declared.owner.OwnerCells.{OwnerCells}
use Rattle.cell_store.specs.Count.{has_pair, pair_eq, pair_of}
use Rattle.cell_store.specs.Sweep.{alive_at}
use Rattle.shelf.specs.declared.shelf.KeptFlush.{KeptFlush}
use Rattle.shelf.specs.declared.shelf.Shelf.{Shelf}
use Rattle.shelf.specs.declared.fault.StoreFault.{StoreFault}
use Rattle.shelf.specs.declared.fault.StoreFault.TheVariants.{Full}
use Rattle.shelf.specs.Room.{needs_place}
use Rattle.shelf.specs.Told.{Told, cell_by, face_of, is_version, only, HasAdmitted, HasFlushed, IsShelfOf}
use Rattle.shelf.specs.Told.Told.{admitted, flushed}

-- the pairs of the admissions, in order: of each find its owner and scope
abbrev pub pairs_in : List Told → List (Labels × Scope)
pairs_in [] = []
pairs_in (admitted find moment ∷ told) = pair_of find ∷ pairs_in told
pairs_in (flushed flush number ∷ told) = pairs_in told

-- the number of different pairs
abbrev pub count_pairs : List (Labels × Scope) → ℕ
count_pairs pairs = distinct_count pair_eq pairs

-- Each place that counts is that of an admission.
abbrev pub HasAdmittedEach : List Told → Shelf → Type 0
HasAdmittedEach told shelf = (pair : Labels × Scope) → has_pair shelf.owners pair ≡ true → is_member pair_eq (pairs_in told) pair ≡ true

-- The same with one admission or flush more.
abbrev pub AddsEach : List Told → Told → Shelf → Shelf → Type 0
AddsEach told more old new = HasAdmittedEach told old → HasAdmittedEach (told ++ more ∷ []) new

-- If each place that counted was that of an admission, each that counts is one of those.
abbrev pub KeepsEach : List Told → Shelf → Shelf → Type 0
KeepsEach told old new = HasAdmittedEach told old → HasAdmittedEach told new

-- If a find was admitted, each place that counts is that of an admission, with this one more.
abbrev pub AddsAdmitted : List Told → Find → ℕ → Shelf → Shelf → Type 0
AddsAdmitted told find t old new = HasAdmitted find t old new → AddsEach told (admitted find t) old new

-- The same, if a flush was made.
abbrev pub AddsFlushed : List Told → Flush → ℕ → Shelf → Shelf → Type 0
AddsFlushed told flush n old new = HasFlushed flush n old new → AddsEach told (flushed flush n) old new

-- A find of this pair is alive at a moment in the cell of a question, if only the chosen ones of the kept flushes are in force.
pub record IsAliveInFace (shelf : Shelf) (t : ℕ) (pair : Labels × Scope) : Type 0 where
  pub chosen : ℕ → Bool
  pub question : Question
  pub held : Admitted Find
  pub alive : alive_at t (face_of shelf chosen question) ≡ Some held
  pub same : pair_of held.body ≡ pair

-- A count of places is at least that of the pairs of which some choice of the kept flushes gives a find that is alive.
abbrev pub CountsFaces : Shelf → ℕ → Type 0
CountsFaces shelf count = (t : ℕ) (pairs : List (Labels × Scope)) → AllByRecursion (IsAliveInFace shelf t) pairs → count_pairs pairs ≤ count

-- A find of this pair is alive at a moment in a version of the cell of a question, by a replay.
pub record IsAliveInReplay (kept : List KeptFlush) (told : List Told) (t : ℕ) (pair : Labels × Scope) : Type 0 where
  pub question : Question
  pub version : ℕ
  pub there : is_version kept question version ≡ true
  pub held : Admitted Find
  pub alive : alive_at t (cell_by question (only version) told) ≡ Some held
  pub same : pair_of held.body ≡ pair

-- What the room decides of an admission. A find whose pair has a counted place is cached, as is one whose pair a find has that is alive in some version. It is full only once as many different pairs as the limit were admitted.
pub record IsByRoom {T : Type 0} (old : Shelf) (find : Find) (moment : ℕ) (result : Result T StoreFault) : Type 0 where
  pub full : (old.stored ≡ old.limit) × (needs_place old find moment ≡ true) → IsErrOf result (Full old.stored)
  pub unneeded : needs_place old find moment ≡ false → IsOk result
  pub counted : has_pair old.owners (pair_of find) ≡ true → IsOk result
  pub alive : IsAliveInFace old moment (pair_of find) → IsOk result
  pub replayed : (told : List Told) → IsShelfOf old told → IsAliveInReplay old.kept.items told moment (pair_of find) → IsOk result
  pub many : (told : List Told) → HasAdmittedEach told old → (n : ℕ) → IsErrOf result (Full n) → old.limit ≤ count_pairs (pairs_in told)

-- A count of places is at least that of the pairs of which a replay gives a find that is alive, in some version.
abbrev pub CountsReplayed : Shelf → ℕ → Type 0
CountsReplayed shelf count = (told : List Told) → IsShelfOf shelf told → (t : ℕ) (pairs : List (Labels × Scope)) →
    AllByRecursion (IsAliveInReplay shelf.kept.items told t) pairs → count_pairs pairs ≤ count

-- whether a question is about a pair: it has the owner, and the type unless the pair is of the whole name
abbrev pub is_about : Labels × Scope → Question → Bool
is_about pair question = name_eq pair.0 question.owner && has_kind pair.1 question.kind

-- If only the chosen ones of the kept flushes were in force, a cell about this pair would have a find that is alive at a moment.
pub record IsNeeded (shelf : Shelf) (t : ℕ) (pair : Labels × Scope) : Type 0 where
  pub chosen : ℕ → Bool
  pub question : Question
  pub about : is_about pair question ≡ true
  pub alive : is_some (alive_at t (face_of shelf chosen question)) ≡ true

-- Each place that counts is needed at a moment.
abbrev pub AreNeeded : ℕ → Shelf → Type 0
AreNeeded t shelf = (pair : Labels × Scope) → has_pair shelf.owners pair ≡ true → IsNeeded shelf t pair

-- Whatever choice of the kept flushes is in force, what is alive at a moment is shown as before.
abbrev pub ShowsSameAlive : ℕ → Shelf → Shelf → Type 0
ShowsSameAlive t old new = (chosen : ℕ → Bool) (question : Question) → alive_at t (face_of new chosen question) ≡ alive_at t (face_of old chosen question)

-- the columns of a name, or 0 if a find of the whole name is cached
abbrev pub plain_columns : OwnerCells → ℕ
plain_columns cells = if is_some cells.whole then 0 else length cells.kinds.items

-- the columns of all names of which no find of the whole name is cached
abbrev pub columns_in : List (Labels × OwnerCells) → ℕ
columns_in entries = sum_by (λ entry. plain_columns entry.1) entries
