-- The content of a cell, by version. In version 0 no flush that can be undone is in force; in version n only the flush of number n is.
use Rattle.std.specs.Prelude.{◌≡◌, ℕ, ◌+◌, ◌++◌, Bool, true, false, List, [], ◌∷◌, Option, None, Some, fold, nat_lt, nat_le, if◌then◌else◌}
use Rattle.ranked.specs.declared.cell.Admitted.{Admitted}
use Rattle.ranked.specs.Cell.{after_admission}
use Rattle.cell_store.specs.declared.version.Place.{Place}
use Rattle.cell_store.specs.declared.version.Version.{Version}

-- an empty cell
abbrev pub nothing : {B : Type 0} → Place B
nothing = record { left = false; cell = record { held = None } }

-- a reference to the find of the whole name
abbrev pub whole : {B : Type 0} → Place B
whole = record { left = true; cell = record { held = None } }

-- a place with its own content
abbrev pub own : {B : Type 0} → Option (Admitted B) → Place B
own held = record { left = false; cell = record { held = held } }

-- a place after an admission; the flag says whether the find of the whole name outranks the new one
abbrev pub after_find : {B : Type 0} → Admitted B → Bool → Place B → Place B
after_find new outranked place =
    if place.left then (if outranked then place else own (Some new)) else own (after_admission place.cell.held new)

-- an entry after an admission
abbrev pub version_after : {B : Type 0} → Admitted B → Bool → Version B → Version B
version_after new outranked version = record { from = version.from; place = after_find new outranked version.place }

-- the place of the last entry that starts at a version or before
abbrev pub later_place : {B : Type 0} → ℕ → Place B → Version B → Place B
later_place v before version = if nat_le version.from v then version.place else before

-- the content in a version
abbrev pub place_at : {B : Type 0} → List (Version B) → ℕ → Place B
place_at versions v = fold (later_place v) nothing versions

-- the entry, starting at version 0 if it started at a number or before
abbrev pub lowered : {B : Type 0} → ℕ → Version B → Version B
lowered number version = record { from = if nat_le version.from number then 0 else version.from; place = version.place }

-- the entries with the emptiness of the versions up to a number made explicit
abbrev pub reached : {B : Type 0} → ℕ → ℕ → List (Version B) → List (Version B)
reached upto top versions = if nat_lt upto top then versions ++ record { from = upto + 1; place = nothing } ∷ [] else versions

-- The first entry starts at version 0.
abbrev pub IsFromStart : {B : Type 0} → List (Version B) → Type 0
IsFromStart [] = ⊥
IsFromStart (version ∷ versions) = version.from ≡ 0
