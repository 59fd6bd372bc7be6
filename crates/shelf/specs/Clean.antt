-- The names that need no sweep, and the moment from which each may need one.
use Rattle.std.specs.Prelude.{◌≡◌, ◌⊎◌, zero, suc, ◌<◌, ◌≤◌, ◌+◌, ℕ, Bool, true, false, nat_lt, ◌-◌, ◌++◌, [], ◌∷◌, is_some, IfSome, Option, None, Some, List, length, take, slice_get, slice_index_or, slice_set, swap_remove, if◌then◌else◌}
use Rattle.dns_name.specs.Labels.{Labels}
use Rattle.ranked.specs.declared.find.Scope.TheVariants.{One}
use Rattle.cell_store.specs.declared.owner.OwnerCells.{OwnerCells}
use Rattle.cell_store.specs.Owner.{cell_in}
use Rattle.cell_store.specs.Count.{count_of, has_place}
use Rattle.cell_store.specs.Sweep.{alive_at, is_dead}
use Rattle.shelf.specs.declared.ends.Ends.{Ends}
use Rattle.shelf.specs.declared.shelf.KeptFlush.{KeptFlush}
use Rattle.shelf.specs.Kept.{is_version}
use Rattle.shelf.specs.Lasts.{AreLow, AreSameLasts, AreWinners, IsShaped}

-- Some version of a type has a find that is alive at a moment.
abbrev pub IsAlive : List KeptFlush → Labels → ℕ → OwnerCells → ℕ → Type 0
IsAlive kept name t cells kind = (v : ℕ) × ((is_version kept (record { owner = name; kind = kind }) v ≡ true) × (is_some (alive_at t (cell_in cells kind v)) ≡ true))

-- A name needs no sweep at a moment: some place counts, and each that counts has a find that is alive in some version.
pub record IsClean (kept : List KeptFlush) (t : ℕ) (name : Labels) (cells : OwnerCells) : Type 0 where
  pub kinds : (k : ℕ) → has_place cells (One k) ≡ true → IsAlive kept name t cells k
  pub whole : is_dead t cells.whole ≡ false
  pub counted : 1 ≤ count_of cells

-- A name needs no sweep before this moment.
abbrev pub IsEnd : List KeptFlush → Labels × OwnerCells → ℕ → Type 0
IsEnd kept entry end = (t : ℕ) → t < end → IsClean kept t entry.0 entry.1

-- There is a moment for each entry, and the relation holds between the two.
pub record AreKeyed (P : Labels × OwnerCells → ℕ → Type 0) (entries : List (Labels × OwnerCells)) (ends : List ℕ) : Type 0 where
  pub size : length ends ≡ length entries
  pub each : (i : ℕ) → IfSome (slice_get entries i) (λ entry. P entry (slice_index_or ends i 0))

-- the moments, once the next sweep is to visit the name at a place, which is new if it is past the others
abbrev pub touched : ℕ → List ℕ → List ℕ
touched place ends = if nat_lt place (length ends) then slice_set ends place 0 else ends ++ 0 ∷ []

-- the same, by the place that a look-up has found, which is None for a new name
abbrev pub touched_at : Option ℕ → List ℕ → List ℕ
touched_at None ends = ends ++ 0 ∷ []
touched_at (Some place) ends = slice_set ends place 0

-- the moments without the last, if there are more than names
abbrev pub fitted : ℕ → List ℕ → List ℕ
fitted names ends = if nat_lt names (length ends) then take (length ends - 1) ends else ends

-- the moments without that at a place; the last moves into the gap
abbrev pub dropped : Option ℕ → List ℕ → List ℕ
dropped None ends = ends
dropped (Some place) ends = swap_remove ends place 0

-- each moment whose flag is not set, and 0 for the others
abbrev pub evens_of : List ℕ → List Bool → List ℕ
evens_of [] mixed = []
evens_of (end ∷ ends) [] = 0 ∷ evens_of ends []
evens_of (end ∷ ends) (mixed ∷ more) = (if mixed then 0 else end) ∷ evens_of ends more

-- the moments of the names that are not mixed, and 0 for the others
abbrev pub evens : Ends → List ℕ
evens ends = evens_of ends.moments ends.mixed.items

-- the moments, and 0 for the names before a place
abbrev pub zeros_to : ℕ → List ℕ → List ℕ
zeros_to zero ends = ends
zeros_to (suc left) [] = []
zeros_to (suc left) (end ∷ ends) = 0 ∷ zeros_to left ends

-- the moments of the names about which no flush that has gone leaves a doubt, and 0 for the others
abbrev pub sure : Ends → List ℕ
sure ends = zeros_to ends.left ends.moments

-- Each moment is as it was, or 0.
pub record IsLower (was now : List ℕ) : Type 0 where
  pub size : length now ≡ length was
  pub each : (i : ℕ) → (slice_index_or now i 0 ≡ 0) ⊎ (slice_index_or now i 0 ≡ slice_index_or was i 0)

-- the place before which moments are in doubt is as it was, or has gone down by one
abbrev pub HasLowered : ℕ → ℕ → ℕ → Type 0
HasLowered place old new = (new ≡ old) ⊎ ((new ≡ place) × (old ≡ place + 1))

-- The moment at a place is 0 now, or it is as it was, and right whatever flushes are kept.
abbrev pub EndsMixed : ℕ → List ℕ → List Bool → List ℕ → Type 0
EndsMixed place old mixed new = (new ≡ slice_set old place 0) ⊎ ((new ≡ old) × (slice_index_or (evens_of old mixed) place 0 ≡ slice_index_or old place 0))

-- If there was a flag for each moment, that at a place is 0 now, or it is as it was, and right whatever flushes are kept.
abbrev pub EndsMixedAt : ℕ → Ends → Ends → Type 0
EndsMixedAt place old new = length old.mixed.items ≡ length old.moments → EndsMixed place old.moments old.mixed.items new.moments

-- The moments have changed in this way, and so have those of the names that are not mixed, and those that are sure.
pub record AreBy (f : List ℕ → List ℕ) (old new : Ends) : Type 0 where
  pub moments : new.moments ≡ f old.moments
  pub unmixed : evens new ≡ f (evens old)
  pub sure : IsLower (f (sure old)) (sure new)
  pub left : new.left ≤ old.left
  pub flags : length new.mixed.items ≡ length new.moments
  pub lasts : AreSameLasts old.lasts new.lasts

-- No moment of a name that is mixed is sure, and the others are as they were.
pub record AreEvened (old new : Ends) : Type 0 where
  pub size : length new.moments ≡ length old.moments
  pub unmixed : evens new ≡ evens old
  pub sure : IsLower (evens old) (sure new)
  pub flags : length new.mixed.items ≡ length new.moments
  pub lasts : AreSameLasts old.lasts new.lasts

-- No name needs a sweep before its moment, but for names that a flush which has gone left in doubt. A name that is not mixed needs none whatever flushes are kept: version 0 alone says so.
-- The last find of a name does not end before the second that the last visit noted, unless the next sweep is to visit it.
pub record AreEnds (kept : List KeptFlush) (entries : List (Labels × OwnerCells)) (ends : Ends) : Type 0 where
  pub size : length ends.moments ≡ length entries
  pub now : AreKeyed (IsEnd kept) entries (sure ends)
  pub ever : AreKeyed (IsEnd []) entries (evens ends)
  pub flags : length ends.mixed.items ≡ length ends.moments
  pub low : AreLow kept entries (sure ends) ends.lasts.ends.items
  pub low_ever : AreLow [] entries (evens ends) ends.lasts.ends.items
  pub winners : AreWinners entries ends.lasts

-- If no name needed a sweep before its moment, none does, whatever the names are and whatever flushes are kept.
abbrev pub KeepsEnds : Ends → Ends → Type 0
KeepsEnds old new = (kept : List KeptFlush) (entries : List (Labels × OwnerCells)) → AreEnds kept entries old → AreEnds kept entries new

-- Moments are in doubt from no later place than before, and if they were from one place at most, then now from the other at most.
abbrev pub HasSettled : ℕ → ℕ → Ends → Ends → Type 0
HasSettled from to old new = (new.left ≤ old.left) × (old.left ≤ from → new.left ≤ to)

-- There is a moment and a second for each entry, and a flag for each moment.
abbrev pub HaveEnds : List (Labels × OwnerCells) → Ends → Type 0
HaveEnds entries ends =
    (length ends.moments ≡ length entries) × (length ends.mixed.items ≡ length ends.moments) × (length ends.lasts.ends.items ≡ length entries) × IsShaped ends.lasts
