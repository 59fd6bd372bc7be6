-- The cells that the workers filled, and how many of them a zone may have.
use Rattle.std.specs.Prelude.{◌≡◌, ◌≤◌, ◌<◌, ◌⊎◌, ◌+◌, ◌*◌, ◌%◌, get_or, ℕ, ◌-◌, ◌/◌, ◌==◌, max, min, Bool, true, false, Option, Some, None, is_some, count_by, length, slice_set, List}
use Rattle.iterate.specs.declared.limits.TheConstants.{MOST_FINDS}
use Rattle.front_workers.specs.declared.filled_cells.Filled.{Filled}
use Rattle.front_workers.specs.declared.filled_cells.TheConstants.{FREE_FOR_ZONE, LEAST_SHARE, LOOKED_AT, ROW}

-- whether a place has a cell of this counter's zones
abbrev pub is_of : ℕ → Option Filled → Bool
is_of counter None = false
is_of counter (Some cell) = cell.counter == counter

-- how many places are empty
abbrev pub free_in : List (Option Filled) → ℕ
free_in places = length places - count_by is_some places

-- how many cells the zones of one counter may have: an eighth of those that are free, or those of one response
abbrev pub share_in : List (Option Filled) → ℕ
share_in places = max (free_in places / FREE_FOR_ZONE) LEAST_SHARE

-- how many finds of one response they may bring: as many as their share has room for, up to the limit of a response
abbrev pub allowed_of : List (Option Filled) → ℕ → ℕ
allowed_of places counter = min (share_in places - count_by (is_of counter) places) MOST_FINDS

-- the moment at which the cell of a place ends, and 0 without one
abbrev pub end_in : Option Filled → ℕ
end_in None = 0
end_in (Some cell) = cell.until

-- whether a place has the cell with this hash
abbrev pub is_marked : ℕ → Option Filled → Bool
is_marked mark None = false
is_marked mark (Some cell) = cell.mark == mark

-- the first place of the row of a hash
abbrev pub row_of : List (Option Filled) → ℕ → ℕ
row_of places mark = mark % (length places / ROW) * ROW

-- A place has not this hash, and its cell ends no sooner than another.
abbrev pub IsPassed : List (Option Filled) → ℕ → ℕ → ℕ → Type 0
IsPassed places mark best other = (is_marked mark (get_or places other None) ≡ false) × (end_in (get_or places best None) ≤ end_in (get_or places other None))

-- The place of a cell in the row that begins here: the one that has its hash, or, where none has, the one whose cell ends first.
pub record IsPlaceFor (places : List (Option Filled)) (first mark place : ℕ) : Type 0 where
  pub from_first : first ≤ place
  pub in_row : place < first + ROW
  pub chosen : (is_marked mark (get_or places place None) ≡ true) ⊎ ((other : ℕ) → first ≤ other → other < first + ROW → IsPassed places mark place other)

-- A cell is noted in its place of the row of its hash.
abbrev pub NotesCell : List (Option Filled) → Filled → List (Option Filled) → Type 0
NotesCell places cell places' = (place : ℕ) × IsPlaceFor places (row_of places cell.mark) cell.mark place × (places' ≡ slice_set places place (Some cell))

-- Some of the cells have left, all of them at their end.
pub record HaveEnded (now : ℕ) (before after : List (Option Filled)) : Type 0 where
  pub same_length : length after ≡ length before
  pub each : (place : ℕ) → (get_or after place None ≡ get_or before place None) ⊎ ((get_or after place None ≡ None) × (end_in (get_or before place None) ≤ now))

-- No place from one on, of so many, has a cell whose time is up.
abbrev pub AreCurrent : ℕ → List (Option Filled) → ℕ → ℕ → Type 0
AreCurrent now places first count = (place : ℕ) → first ≤ place → place < first + count → (get_or places place None ≡ None) ⊎ (now < end_in (get_or places place None))

-- The next places were looked at, up to the last one: cells have left that had ended, and none that had is left there. The next look begins behind them, or anew.
pub record IsLookedOver (now first : ℕ) (before after : List (Option Filled)) (next : ℕ) : Type 0 where
  pub ended : HaveEnded now before after
  pub current : AreCurrent now after first LOOKED_AT
  pub further : first + LOOKED_AT ≤ length before → next ≡ first + LOOKED_AT
  pub anew : length before < first + LOOKED_AT → next ≡ 0
