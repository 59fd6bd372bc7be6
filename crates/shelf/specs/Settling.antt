-- Permanent flushes of zones that have not reached the cells of each name yet.
use Rattle.std.specs.Prelude.{◌≡◌, ◌<◌, ◌≤◌, ◌+◌, ◌++◌, ◌&&◌, ◌==◌, ◌∷◌, [], ℕ, Bool, false, length, nat_le, not, max, min, true, fold, vec_capacity, List, Option, Vec, if◌then◌else◌}
use Rattle.std.specs.List.{AllByRecursion, filter, list_any}
use Rattle.indexmap.specs.IndexMap.{IndexMap}
use Rattle.dns_name.specs.Labels.{Labels}
use Rattle.dns_name.specs.Below.{is_at_or_below}
use Rattle.dns_name.specs.Order.{name_eq}
use Rattle.dns_text.specs.declared.record.Question.{Question}
use Rattle.ranked.specs.declared.find.Find.{Find}
use Rattle.ranked.specs.declared.cell.Admitted.{Admitted}
use Rattle.ranked.specs.declared.flush.Flush.{Flush}
use Rattle.ranked.specs.declared.flush.Reach.{Reach}
use Rattle.ranked.specs.declared.flush.Reach.TheVariants.{OneType, Name, Zone}
use Rattle.ranked.specs.Flush.{covers}
use Rattle.cell_store.specs.declared.owner.OwnerCells.{OwnerCells}
use Rattle.cell_store.specs.Owner.{after_settle}
use Rattle.cell_store.specs.Store.{cell_of, name_place, AreAbout, AreUpTo}
use Rattle.shelf.specs.declared.settling.Settling.{Settling}
use Rattle.shelf.specs.declared.shelf.KeptFlush.{KeptFlush}
use Rattle.shelf.specs.declared.shelf.Shelf.{Shelf}

-- the version so far, or that of a flush, if it covers the name and is newer
abbrev pub later_settled : Labels → ℕ → Settling → ℕ
later_settled name v own = after_settle (is_at_or_below name own.zone) own.number v

-- the version whose content a version has: that of the newest flush that covers the name, if it is newer
abbrev pub settled_version : List Settling → Labels → ℕ → ℕ
settled_version settlings name v = fold (later_settled name) v settlings

-- the content of the cell of a question in a version, whether or not the flushes have reached the name
abbrev pub settled_cell : {S : Type 0} → List Settling → IndexMap Labels OwnerCells S → Question → ℕ → Option (Admitted Find)
settled_cell settlings owners question v = cell_of owners question (settled_version settlings question.owner v)

-- A flush has reached each name from a place on: each version before it has the content that the flush left.
abbrev pub AreReached : {S : Type 0} → Labels → ℕ → ℕ → IndexMap Labels OwnerCells S → Type 0
AreReached zone number place owners = (question : Question) (v : ℕ) → place ≤ name_place question.owner owners.entries →
    cell_of owners question (after_settle (is_at_or_below question.owner zone) number v) ≡ cell_of owners question v

-- The flush is not newer than the newest, and has reached each name from the place `left` on.
pub record IsSettling {S : Type 0} (top : ℕ) (owners : IndexMap Labels OwnerCells S) (own : Settling) : Type 0 where
  pub older : own.number ≤ top
  pub reached : AreReached own.zone own.number own.left owners

-- A flush has reached some names more, from one place down to another. No content changes, and each other flush has reached what it had.
pub record IsReaching {S : Type 0} (zone : Labels) (number top from to : ℕ) (old new : IndexMap Labels OwnerCells S) : Type 0 where
  pub cells : (question : Question) (v : ℕ) → cell_of new question (after_settle (is_at_or_below question.owner zone) number v)
      ≡ cell_of old question (after_settle (is_at_or_below question.owner zone) number v)
  pub upto : AreUpTo top new
  pub about : AreAbout old → AreAbout new
  pub reached : AreReached zone number from old → AreReached zone number to new
  pub others : (own : Settling) → IsSettling top old own → IsSettling top new own

-- Each version has the content that another version had.
pub record IsMoved {S : Type 0} (moved : Question → ℕ → ℕ) (top : ℕ) (was now : List Settling) (old new : IndexMap Labels OwnerCells S) : Type 0 where
  pub cells : (question : Question) (v : ℕ) → settled_cell now new question v ≡ settled_cell was old question (moved question v)
  pub upto : AreUpTo top new
  pub about : AreAbout old → AreAbout new
  pub settling : AllByRecursion (IsSettling top new) now

-- Each version of each question has the content that another version had, if each permanent flush has reached each name from its place on.
abbrev pub AreMovedBy : {S : Type 0} → (Question → ℕ → ℕ) → List Settling → List Settling → IndexMap Labels OwnerCells S → IndexMap Labels OwnerCells S → Type 0
AreMovedBy moved was now old new = (top : ℕ) → AreUpTo top old → AllByRecursion (IsSettling top old) was → IsMoved moved top was now old new

-- The same, if no flush has a greater number than the newest.
abbrev pub AreMovedFrom : {S : Type 0} → ℕ → (Question → ℕ → ℕ) → List Settling → List Settling → IndexMap Labels OwnerCells S → IndexMap Labels OwnerCells S → Type 0
AreMovedFrom number moved was now old new =
    (top : ℕ) → number ≤ top → AreUpTo top old → AllByRecursion (IsSettling top old) was → IsMoved moved top was now old new

-- Each version has the content that another version had, while the list of permanent flushes stays as it is, whatever it is.
abbrev pub AreMovedAlone : {S : Type 0} → (Question → ℕ → ℕ) → IndexMap Labels OwnerCells S → IndexMap Labels OwnerCells S → Type 0
AreMovedAlone moved old new = (settlings : List Settling) → AreMovedBy moved settlings settlings old new

-- the version whose content a version gets when a flush of every type at or below a name becomes permanent
abbrev pub moved_by_zone : Labels → ℕ → Question → ℕ → ℕ
moved_by_zone zone number question v = after_settle (is_at_or_below question.owner zone) number v

-- the same for a flush of some types of a name
abbrev pub moved_by_name : Labels → List ℕ → ℕ → Question → ℕ → ℕ
moved_by_name name kinds number question v = after_settle (name_eq name question.owner && list_any (λ kind. kind == question.kind) kinds) number v

-- the same for a flush
abbrev pub moved_by_flush : Flush → ℕ → Question → ℕ → ℕ
moved_by_flush flush number question v = after_settle (covers flush question) number v

-- what a flush has left: a step for each name that it may not have reached, and one to go
abbrev pub steps_of : Settling → ℕ
steps_of own = own.left + 1

-- the most names that one of them has left
abbrev pub most_left : List Settling → ℕ
most_left [] = 0
most_left (own ∷ later) = max own.left (most_left later)

-- what the flushes have left
abbrev pub steps_left : List Settling → ℕ
steps_left [] = 0
steps_left (own ∷ later) = steps_of own + steps_left later

-- the names that a flush reaches at one call
abbrev pub reached_at_once : ℕ
reached_at_once = 256

-- whether a flush of every type at or below a name covers all that another flush covers, and is not older
abbrev pub is_outdone : Labels → ℕ → Settling → Bool
is_outdone zone number own = nat_le own.number number && is_at_or_below own.zone zone

-- the flushes that it does not outdo
abbrev pub without_outdone : Labels → ℕ → List Settling → List Settling
without_outdone zone number settlings = filter (λ own. not (is_outdone zone number own)) settlings

-- the flushes once another one joins them: those go that it outdoes
abbrev pub joined_to : Settling → List Settling → List Settling
joined_to own settlings = without_outdone own.zone own.number settlings ++ own ∷ []

-- a flush with so many names left to reach
abbrev pub with_left : ℕ → Settling → Settling
with_left left own = record { zone = own.zone; number = own.number; left = left }

-- the first flush has so many names left to reach, and goes if it has none
abbrev pub first_at : ℕ → List Settling → List Settling
first_at left [] = []
first_at left (own ∷ later) = if left == 0 then later else with_left left own ∷ later

-- A flush that has gone leaves moments in doubt. An entry of number 0 changes no version: its steps only end the names in doubt.
abbrev pub doubting : ℕ → Settling
doubting names = record { zone = []; number = 0; left = names }

-- what joins the permanent flushes with another one: itself, if it is one of a zone
abbrev pub joining : Reach → Labels → ℕ → ℕ → Settling
joining (OneType kind) zone number names = doubting names
joining Name zone number names = doubting names
joining Zone zone number names = record { zone = zone; number = number; left = names }

-- the flushes once another one is permanent: it joins them, without those that it outdoes
abbrev pub joined_by : Reach → Labels → ℕ → ℕ → List Settling → List Settling
joined_by reach zone number names settlings = joined_to (joining reach zone number names) settlings

-- A flush has joined the permanent ones, and has each name left that is there.
abbrev pub HasJoined : {S : Type 0} → Flush → ℕ → IndexMap Labels OwnerCells S → List Settling → List Settling → Type 0
HasJoined flush number owners was now = now ≡ joined_by flush.reach flush.name number (length owners.entries) was

-- the flushes once an undone one has gone
abbrev pub doubted : ℕ → List Settling → List Settling
doubted names settlings = without_outdone [] 0 settlings ++ doubting names ∷ []

-- If there was room for one more, the flushes are those once an undone one has gone.
abbrev pub DoubtsIfRoom : {A : Type 0} → ℕ → Vec Settling A → Vec Settling A → Type 0
DoubtsIfRoom names old new = length old.items < vec_capacity old → new.items ≡ doubted names old.items

-- the same, if the flush of a number was kept
abbrev pub cleared_once : ℕ → ℕ → List KeptFlush → List Settling → List Settling
cleared_once number names kept settlings = if list_any (λ own. own.number == number) kept then doubted names settlings else settlings

-- the flushes once the kept flush of a number has gone: it is permanent if it was the oldest and in force
abbrev pub settled_once : ℕ → ℕ → List KeptFlush → List Settling → List Settling
settled_once number names [] settlings = settlings
settled_once number names (own ∷ later) settlings =
    if own.number == number && own.shown then joined_by own.flush.reach own.flush.name own.number names settlings else cleared_once number names (own ∷ later) settlings

-- the same in a cache
abbrev pub settled_by : ℕ → Shelf → List Settling
settled_by number shelf = settled_once number (length shelf.owners.entries) shelf.kept.items shelf.settlings.items

-- the permanent flushes of a cache, once the kept flush of a number was dropped
abbrev pub cleared_by : ℕ → Shelf → List Settling
cleared_by number shelf = cleared_once number (length shelf.owners.entries) shelf.kept.items shelf.settlings.items

-- No flush is outdone by a later one.
abbrev pub AreUseful : List Settling → Type 0
AreUseful [] = Unit {0}
AreUseful (own ∷ later) = AllByRecursion (λ other. is_outdone other.zone other.number own ≡ false) later × AreUseful later

-- The list of permanent flushes is no longer than before, and none is outdone if none was. It has kept its room.
pub record HasShrunk {A : Type 0} (old new : Vec Settling A) : Type 0 where
  pub size : length new.items ≤ length old.items
  pub capacity : vec_capacity new ≡ vec_capacity old
  pub useful : AreUseful old.items → AreUseful new.items

-- It has at most one more, and has kept its room.
abbrev pub IsOneLonger : {A : Type 0} → Vec Settling A → Vec Settling A → Type 0
IsOneLonger old new = (length new.items ≤ length old.items + 1) × (vec_capacity new ≡ vec_capacity old)

-- It has at most one more, and none is outdone if none was.
pub record HasGrown {A : Type 0} (old new : Vec Settling A) : Type 0 where
  pub more : IsOneLonger old new
  pub useful : AreUseful old.items → AreUseful new.items

-- the same version
abbrev pub unmoved : Question → ℕ → ℕ
unmoved question v = v

-- the steps that the first flush has left
abbrev pub first_steps : List Settling → ℕ
first_steps [] = 0
first_steps (own ∷ later) = steps_of own

-- A call has taken so many steps of the first flush, or all that it had; at most one more, with which it goes.
abbrev pub HaveStepped : ℕ → List Settling → List Settling → Type 0
HaveStepped most was now = (steps_left now + min most (first_steps was) ≤ steps_left was) × (steps_left was ≤ steps_left now + most + 1)

-- whether the first flush only ends names in doubt
abbrev pub ends_first : List Settling → Bool
ends_first [] = false
ends_first (own ∷ later) = own.number == 0

-- If the first flush only ends names in doubt, a call has taken some of its steps. Else the flushes are as they were.
abbrev pub HaveEnded : List Settling → List Settling → Type 0
HaveEnded was now = (ends_first was ≡ true → HaveStepped reached_at_once was now) × (ends_first was ≡ false → now ≡ was)
