-- The sweep: the cells after it.
use Rattle.std.specs.Prelude.{◌≡◌, ◌≢◌, ◌<◌, ◌≤◌, ◌+◌, ◌-◌, ◌*◌, ℕ, Bool, true, false, IfSome, List, [], ◌∷◌, ◌++◌, fold, max, min, nat_le, sum_by, length, slice_get, slice_index_or, if◌then◌else◌}
use Rattle.indexmap.specs.IndexMap.{IndexMap, get}
use Rattle.dns_name.specs.Labels.{Labels}
use Rattle.dns_name.specs.Order.{name_eq}
use Rattle.dns_text.specs.declared.record.Question.{Question}
use Rattle.ranked.specs.declared.find.Scope.TheVariants.{One}
use Rattle.cell_store.specs.declared.owner.OwnerCells.{OwnerCells}
use Rattle.cell_store.specs.Owner.{cell_in}
use Rattle.cell_store.specs.Count.{count_of, has_place, stored_in, IsTidy, LosesFinds}
use Rattle.cell_store.specs.Ends.{latest, name_end}
use Rattle.cell_store.specs.Walk.{IsEach, IsEntry}
use Rattle.cell_store.specs.Store.{cell_of, AreAbout, AreCountedFrom, EachCounts, GainNothing, HaveTop}
use Rattle.cell_store.specs.Mixed.{has_mixed, IsLikeFirst}
use Rattle.cell_store.specs.Sweep.{alive_at, is_dead, whole_swept}
use Rattle.shelf.specs.declared.shelf.KeptFlush.{KeptFlush}
use Rattle.ranked.specs.Flush.{covers}
use Rattle.shelf.specs.Kept.{is_version}
pub use Rattle.shelf.specs.Clean.{IsAlive}
use Rattle.shelf.specs.Clean.{AreEnds, AreKeyed, IsClean, IsEnd}
use Rattle.shelf.specs.declared.ends.Ends.{Ends}
use Rattle.shelf.specs.declared.settling.Settling.{Settling}
use Rattle.shelf.specs.declared.shelf.Shelf.{Shelf}
use Rattle.shelf.specs.First.{life_at}
use Rattle.shelf.specs.Lasts.{last_at}
use Rattle.shelf.specs.Settling.{steps_left}

-- the numbers so far, and that of a flush if it covers the question
abbrev pub number_more : Question → List ℕ → KeptFlush → List ℕ
number_more question done own = if covers own.flush question then done ++ own.number ∷ [] else done

-- the numbers of the kept flushes that cover a question
abbrev pub numbers_of : List KeptFlush → Question → List ℕ
numbers_of kept question = fold (number_more question) [] kept

-- The cells of a name after a sweep. Each version keeps what is alive, and gets nothing. Each column that counts has a find that is alive in some version, and the name is tidy.
pub record IsSwept (kept : List KeptFlush) (t : ℕ) (name : Labels) (old new : OwnerCells) : Type 0 where
  pub cells : (k v : ℕ) → is_version kept (record { owner = name; kind = k }) v ≡ true → alive_at t (cell_in new k v) ≡ alive_at t (cell_in old k v)
  pub alive : (k : ℕ) → has_place new (One k) ≡ true → IsAlive kept name t new k
  pub whole : new.whole ≡ whole_swept t old.whole
  pub lost : LosesFinds old new
  pub tidy : IsTidy new

-- Each place that counts has a find that is alive in some version, and each name has a place that counts.
pub record AreAlive {S : Type 0} (kept : List KeptFlush) (t : ℕ) (owners : IndexMap Labels OwnerCells S) : Type 0 where
  pub kinds : (name : Labels) → IfSome (get name_eq owners name) (λ cells. (k : ℕ) → has_place cells (One k) ≡ true → IsAlive kept name t cells k)
  pub wholes : (name : Labels) → IfSome (get name_eq owners name) (λ cells. is_dead t cells.whole ≡ false)
  pub counted : AreCountedFrom 0 owners

-- The cells of a name after a sweep, whatever they were: each version keeps what is alive, and gets nothing.
pub record IsLessened (kept : List KeptFlush) (t : ℕ) (name : Labels) (old new : OwnerCells) : Type 0 where
  pub cells : (k v : ℕ) → is_version kept (record { owner = name; kind = k }) v ≡ true → alive_at t (cell_in new k v) ≡ alive_at t (cell_in old k v)
  pub lost : LosesFinds old new

-- The cells of all names after a sweep of some: each version keeps what is alive, and gets nothing.
pub record AreLessened {S : Type 0} (kept : List KeptFlush) (t : ℕ) (old new : IndexMap Labels OwnerCells S) : Type 0 where
  pub cells : (q : Question) (v : ℕ) → is_version kept q v ≡ true → alive_at t (cell_of new q v) ≡ alive_at t (cell_of old q v)
  pub about : AreAbout old → AreAbout new
  pub gains : GainNothing old new

-- What a sweep of a name gives: a later moment before which it needs no other sweep, if some place counts.
abbrev pub IsNext : List KeptFlush → ℕ → Labels × OwnerCells → ℕ → Type 0
IsNext kept t entry end = 1 ≤ count_of entry.1 → IsEnd kept entry end × IsClean kept t entry.0 entry.1 × ((s : ℕ) → s ≤ t → s < latest → s < end)

-- The name at a place was swept, and the others are as they were. If it is not mixed, it does not matter which flushes are kept. The moment is the first end of its finds, or the next second, if that is later.
pub record IsSweptAt (kept : List KeptFlush) (t place : ℕ) (old new : List (Labels × OwnerCells)) (end : ℕ) (mixed : Bool) : Type 0 where
  pub each : IsEach (IsEntry (IsLessened kept t)) old new
  pub others : (i : ℕ) → i ≢ place → slice_get new i ≡ slice_get old i
  pub size : length new ≡ length old
  pub next : IfSome (slice_get new place) (λ entry. IsNext kept t entry end)
  pub ever : mixed ≡ false → IfSome (slice_get new place) (λ entry. IsNext [] t entry end)
  pub alike : mixed ≡ false → IfSome (slice_get new place) (λ entry. IsLikeFirst entry.1)
  pub tidy : IfSome (slice_get new place) (λ entry. IsTidy entry.1)
  pub exact : IfSome (slice_get new place) (λ entry. end ≡ max (name_end entry.1) (min (t + 1) latest))
  pub flag : IfSome (slice_get new place) (λ entry. mixed ≡ has_mixed entry.1)

-- A name that ends after a moment needs no sweep at another.
abbrev pub IsDue : List KeptFlush → ℕ → ℕ → Labels × OwnerCells → ℕ → Type 0
IsDue kept t asked entry end = asked < end → IsClean kept t entry.0 entry.1

-- A sweep can begin: no name needs one before its moment, and no moment is in doubt. As many places count as it says.
pub record CanSweep {S : Type 0} (kept : List KeptFlush) (owners : IndexMap Labels OwnerCells S) (ends_now : Ends) (stored : ℕ) : Type 0 where
  pub ends : AreEnds kept owners.entries ends_now
  pub sure : ends_now.left ≡ 0
  pub counted : stored ≡ stored_in owners
  pub top : HaveTop owners

-- The sweep so far: no name needs another before its moment, and no moment is in doubt. As many places count as it says, no more than `most`, and each name is in use if each was.
pub record AreSwept {S : Type 0} (kept : List KeptFlush) (t : ℕ) (first : IndexMap Labels OwnerCells S) (most : ℕ) (owners : IndexMap Labels OwnerCells S) (ends_now : Ends) (stored : ℕ) : Type 0 where
  pub less : AreLessened kept t first owners
  pub ends : AreEnds kept owners.entries ends_now
  pub sure : ends_now.left ≡ 0
  pub counted : stored ≡ stored_in owners
  pub fewer : stored ≤ most
  pub named : EachCounts first.entries → EachCounts owners.entries

-- The same, and each name that ends after `asked` needs no sweep.
pub record IsUnderway {S : Type 0} (kept : List KeptFlush) (t asked : ℕ) (first : IndexMap Labels OwnerCells S) (most : ℕ) (owners : IndexMap Labels OwnerCells S) (ends_now : Ends) (stored : ℕ) : Type 0 where
  pub so_far : AreSwept kept t first most owners ends_now stored
  pub due : AreKeyed (IsDue kept t asked) owners.entries ends_now.moments

-- A sweep that was under way still is.
abbrev pub StaysUnderway : {S : Type 0} → List KeptFlush → ℕ → IndexMap Labels OwnerCells S → Ends → ℕ → IndexMap Labels OwnerCells S → Ends → ℕ → Type 0
StaysUnderway {S} kept t olds old stored news new stored' = (asked most : ℕ) (first : IndexMap Labels OwnerCells S) → asked ≤ t → asked < latest →
    IsUnderway kept t asked first most olds old stored → IsUnderway kept t asked first most news new stored'

-- A name has in its place the second in which its last find ends.
abbrev pub NotesLifeAt : ℕ → List KeptFlush → List (Labels × OwnerCells) → List ℕ → Type 0
NotesLifeAt place kept entries lasts = last_at lasts place ≡ min (life_at [] kept entries place) latest

-- If no name has gone, the one at a place has there the second in which its last find ends.
abbrev pub NotesLifeUnlessGone : ℕ → List KeptFlush → List (Labels × OwnerCells) → List (Labels × OwnerCells) → List ℕ → Type 0
NotesLifeUnlessGone place kept olds news lasts = length news ≡ length olds → NotesLifeAt place kept news lasts

-- 1 if a moment is at another or before, else 0
abbrev pub one_ended : ℕ → ℕ → ℕ
one_ended asked end = if nat_le end asked then 1 else 0

-- the number of names that end at a moment or before
abbrev pub count_ended : ℕ → List ℕ → ℕ
count_ended asked ends = sum_by (one_ended asked) ends

-- One name fewer has ended, if the one at a place had.
abbrev pub EndsOneAt : ℕ → ℕ → List ℕ → List ℕ → Type 0
EndsOneAt place t old new =
    (asked : ℕ) → asked ≤ t → asked < latest → slice_index_or old place 0 ≤ asked → count_ended asked new + 1 ≡ count_ended asked old

-- the second up to which names end that a sweep at a moment visits; what ends in the latest second never ends
abbrev pub asked_at : ℕ → ℕ
asked_at t = min t (latest - 1)

-- what a sweep at a moment has left to do: a visit for each name that has ended, and two for each step of a permanent flush, since the name that it reaches then ends too
abbrev pub unswept : List ℕ → List Settling → ℕ → ℕ
unswept moments settlings t = 2 * steps_left settlings + count_ended (asked_at t) moments

-- the same in a cache
abbrev pub unswept_of : Shelf → ℕ → ℕ
unswept_of shelf t = unswept shelf.ends.moments shelf.settlings.items t

-- the most that a turn of a sweep takes from what is left: two for each of 257 steps of a permanent flush, and one for each name that it reaches
abbrev pub turn_at_most : ℕ
turn_at_most = 771

-- By no moment have more names ended than before, or fewer, than there are places from one down to another.
abbrev pub EndNear : List ℕ → List ℕ → ℕ → ℕ → Type 0
EndNear old new from to = (t : ℕ) → (count_ended t new + to ≤ count_ended t old + from) × (count_ended t old + to ≤ count_ended t new + from)
