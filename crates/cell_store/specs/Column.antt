-- A column: the versions of one name and type, and the find that each has.
use Rattle.std.specs.Prelude.{◌≡◌, ℕ, ◌≤◌, max, Bool, true, [], ◌∷◌, List, Option, Some, None, length, map, nat_lt, is_some, if◌then◌else◌}
use Rattle.std.specs.List.{AllByRecursion, list_any}
use Rattle.std.specs.Option.{option_map}
use Rattle.arrayvec.specs.ArrayVec.{ArrayVec}
use Rattle.ranked.specs.declared.find.Find.{Find}
use Rattle.ranked.specs.declared.cell.Admitted.{Admitted}
use Rattle.ranked.specs.declared.cell.Shown.{Shown}
use Rattle.ranked.specs.Cell.{shown_at, shown_map}
use Rattle.cell_store.specs.declared.version.Place.{Place}
use Rattle.cell_store.specs.declared.version.Version.{Version}
use Rattle.cell_store.specs.declared.version.Sight.{Sight}
use Rattle.cell_store.specs.declared.version.Sight.TheVariants.{Left, Own}
use Rattle.cell_store.specs.Version.{nothing, after_find, place_at, IsFromStart}
use Rattle.cell_store.specs.Few.{contents, AreRanked, DoDiffer}
use Rattle.cell_store.specs.Slots.{version_of, IsWithin, AreNamed}

-- the entries of a column, each with the content from its version on, and the last version that an admission has reached
pub record Cells : Type 0 where
  pub versions : List (Version Find)
  pub upto : ℕ

-- the content in a version; versions past the last that an admission has reached are empty
abbrev pub place_in : Cells → ℕ → Place Find
place_in cells v = if nat_lt cells.upto v then nothing else place_at cells.versions v

-- the cells of a column, with the finds in place of their slots
abbrev pub cells_of : ArrayVec (Version ℕ) → List Find → ℕ → Cells
cells_of versions finds upto = record { versions = map (version_of finds) versions.items; upto = upto }

-- Each cell refers to a find of the column, and some cell refers to each find. The first entry starts at version 0. No two neighbours have the same content. There are at most five entries, so that one more has room.
pub record IsColumn (versions : ArrayVec (Version ℕ)) (finds : List Find) : Type 0 where
  pub within : AllByRecursion (IsWithin (length finds)) versions.items
  pub named : AreNamed versions.items (length finds)
  pub starts : IsFromStart (map (version_of finds) versions.items)
  pub ranked : AreRanked versions.items
  pub differ : DoDiffer (contents versions.items)
  pub short : length versions.items ≤ 5

-- the answer of a place at a moment, or None if it refers to the find of the whole name
abbrev pub sight_at : Place Find → ℕ → Option (Option (Shown Find))
sight_at place moment = if place.left then None else Some (shown_at place.cell.held moment)

-- the answer of a place, with the find itself
abbrev pub sight_now : Sight → Option (Option (Shown Find))
sight_now Left = None
sight_now (Own shown) = Some (option_map (shown_map (λ find. find.now)) shown)

-- whether an entry has a find
abbrev pub has_find : {B : Type 0} → Version B → Bool
has_find version = is_some version.place.cell.held

-- whether a column has a find in some version
abbrev pub is_counted : Cells → Bool
is_counted cells = list_any has_find cells.versions

-- Entries of a column have gone, or gave way to later ones: those that are left refer to no other slots, have no find if none had one, and change as seldom as their ranks allow.
pub record DropsEntries (old new : List (Version ℕ)) : Type 0 where
  pub within : (slots : ℕ) → AllByRecursion (IsWithin slots) old → AllByRecursion (IsWithin slots) new
  pub fewer : length new ≤ length old
  pub finds : list_any has_find new ≡ true → list_any has_find old ≡ true
  pub ranked : AreRanked old → AreRanked new

-- A flush is permanent in a column: each version before it has the content of the flush's own version, and admissions have reached the same versions.
pub record IsSettledTo (number : ℕ) (old new : Cells) : Type 0 where
  pub places : (v : ℕ) → place_in new v ≡ place_in old (max number v)
  pub upto : new.upto ≡ old.upto
  pub counted : is_counted new ≡ true → is_counted old ≡ true

-- one entry without a find, which may refer to the find of the whole name
abbrev pub one_entry : Bool → ℕ → Cells
one_entry left upto = record {
  upto = upto;
  versions = record { from = 0; place = record { left = left; cell = record { held = None } } } ∷ [];
}

-- Each version of a column up to this one has had an admission. The flag says whether the find of the whole name outranks it.
abbrev pub HoldsUpTo : ℕ → Admitted Find → Bool → Cells → Cells → Type 0
HoldsUpTo top admission outranked old new = (v : ℕ) → v ≤ top → place_in new v ≡ after_find admission outranked (place_in old v)
