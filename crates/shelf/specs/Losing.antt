-- Calls that take cells from names: what they need, and what they keep.
use Rattle.std.specs.Prelude.{◌≡◌, ◌≤◌, ℕ, List}
use Rattle.indexmap.specs.IndexMap.{IndexMap}
use Rattle.dns_name.specs.Labels.{Labels}
use Rattle.cell_store.specs.declared.owner.OwnerCells.{OwnerCells}
use Rattle.cell_store.specs.Count.{stored_in}
use Rattle.cell_store.specs.Store.{AreSameCells, EachCounts, GainNothing, HaveTop, StayButAt}
use Rattle.shelf.specs.declared.ends.Ends.{Ends}
use Rattle.shelf.specs.declared.settling.Settling.{Settling}
use Rattle.shelf.specs.declared.shelf.KeptFlush.{KeptFlush}
use Rattle.shelf.specs.Clean.{AreEnds, HasSettled, HaveEnds}
use Rattle.shelf.specs.Settling.{most_left, steps_left, AreReached, HaveStepped}
use Rattle.shelf.specs.Sweep.{EndNear}

-- As many places count as it says, and no admission has reached a version past some one. There is a moment for each name.
pub record IsTallied {S : Type 0} (owners : IndexMap Labels OwnerCells S) (stored : ℕ) (ends : Ends) : Type 0 where
  pub counted : stored ≡ stored_in owners
  pub top : HaveTop owners
  pub size : HaveEnds owners.entries ends

-- The names gained nothing. As many places count as it says, no more than before, and each name is in use if each was.
pub record LosePlaces {S : Type 0} (olds : IndexMap Labels OwnerCells S) (stored : ℕ) (news : IndexMap Labels OwnerCells S) (stored' : ℕ) : Type 0 where
  pub gains : GainNothing olds news
  pub counted : stored' ≡ stored_in news
  pub fewer : stored' ≤ stored
  pub named : EachCounts olds.entries → EachCounts news.entries

-- The same, and no name needs a sweep before its moment if none did, whatever flushes are kept. There is a moment for each name.
pub record LoseCells {S : Type 0} (olds : IndexMap Labels OwnerCells S) (stored : ℕ) (old : Ends) (news : IndexMap Labels OwnerCells S) (stored' : ℕ) (new : Ends) : Type 0 where
  pub places : LosePlaces olds stored news stored'
  pub ends : (kept : List KeptFlush) → AreEnds kept olds.entries old → AreEnds kept news.entries new
  pub size : HaveEnds news.entries new

-- The name at a place has gone, or has lost columns without a find. Each cell is as it was, and each flush has reached what it had. If only the cells of that name had changed before, no name needs a sweep before its moment, and each is in use.
pub record IsTidiedAt {S : Type 0} (place : ℕ) (olds : IndexMap Labels OwnerCells S) (old : Ends) (news : IndexMap Labels OwnerCells S) (new : Ends) : Type 0 where
  pub cells : AreSameCells olds news
  pub gains : GainNothing olds news
  pub counted : stored_in news ≡ stored_in olds
  pub reached : (zone : Labels) (number left : ℕ) → AreReached zone number left olds → AreReached zone number left news
  pub ends : (kept : List KeptFlush) (before : List (Labels × OwnerCells)) → StayButAt place before olds.entries → AreEnds kept before old → AreEnds kept news.entries new
  pub named : (before : List (Labels × OwnerCells)) → StayButAt place before olds.entries → EachCounts before → EachCounts news.entries
  pub size : HaveEnds news.entries new

-- A call has gone from one place down to another: by no moment have more names ended than before, or fewer, than there are places between. No more moments are in doubt.
abbrev pub HaveGoneDown : ℕ → ℕ → Ends → Ends → Type 0
HaveGoneDown from to old new = EndNear old.moments new.moments from to × HasSettled from to old new

-- By no moment have more names ended than before, or fewer, than the permanent flushes have taken steps.
abbrev pub EndBySteps : List Settling → List Settling → Ends → Ends → Type 0
EndBySteps was now old new = EndNear old.moments new.moments (steps_left was) (steps_left now)

-- The first permanent flush has taken so many steps, or all that it had. By no moment have more names ended than before, or fewer, than it took steps. If the flushes had each name left whose moment was in doubt, they have.
pub record TakesSteps (most : ℕ) (was now : List Settling) (old new : Ends) : Type 0 where
  pub steps : HaveStepped most was now
  pub ended : EndBySteps was now old new
  pub doubt : old.left ≤ most_left was → new.left ≤ most_left now

-- Whatever flushes were kept and are kept now, no name needs a sweep before its moment but those in doubt, and some permanent flush has each of these left.
pub record AreDoubted (olds : List (Labels × OwnerCells)) (old : Ends) (news : List (Labels × OwnerCells)) (new : Ends) (settlings : List Settling) : Type 0 where
  pub ends : (kept more : List KeptFlush) → AreEnds kept olds old → AreEnds more news new
  pub left : new.left ≤ most_left settlings
