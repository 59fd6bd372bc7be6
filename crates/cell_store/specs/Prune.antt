-- The entries of a column whose content a version in use has. Version 0 and those of some numbers are in use.
use Rattle.std.specs.Prelude.{◌≡◌, ◌⊎◌, ℕ, ◌==◌, ◌&&◌, ◌||◌, Bool, true, not, List, [], ◌∷◌, fold, nat_le, if◌then◌else◌}
use Rattle.std.specs.List.{list_any}
use Rattle.cell_store.specs.declared.version.Place.{Place}
use Rattle.cell_store.specs.declared.version.Version.{Version}
use Rattle.cell_store.specs.Version.{nothing}

-- whether a version is in use: version 0 is, and those of these numbers
abbrev pub is_asked : List ℕ → ℕ → Bool
is_asked numbers v = v == 0 || list_any (λ n. n == v) numbers

-- whether an entry starts at a version or before
abbrev pub is_from : {B : Type 0} → ℕ → Version B → Bool
is_from v version = nat_le version.from v

-- whether a version has the content of an entry: the entry starts there or before, and no later one does
abbrev pub is_held_at : {B : Type 0} → ℕ → Version B → List (Version B) → Bool
is_held_at v version later = is_from v version && not (list_any (is_from v) later)

-- whether a version has the content of an entry, if an admission has reached it
abbrev pub seen_by : {B : Type 0} → ℕ → Version B → List (Version B) → Bool → ℕ → Bool
seen_by upto version later seen v = if nat_le v upto && is_held_at v version later then true else seen

-- whether a version in use has the content of an entry
abbrev pub is_seen : {B : Type 0} → List ℕ → ℕ → Version B → List (Version B) → Bool
is_seen numbers upto version later = fold (seen_by upto version later) (is_held_at 0 version later) numbers

-- an entry without its content
abbrev pub emptied : {B : Type 0} → Version B → Version B
emptied version = record { from = version.from; place = nothing }

-- the entry, emptied if no version in use has its content
abbrev pub kept_entry : {B : Type 0} → List ℕ → ℕ → Version B → List (Version B) → Version B
kept_entry numbers upto version later = if is_seen numbers upto version later then version else emptied version

-- the entries, each emptied if no version in use has its content
abbrev pub pruned : {B : Type 0} → List ℕ → ℕ → List (Version B) → List (Version B)
pruned numbers upto [] = []
pruned numbers upto (x ∷ xs) = kept_entry numbers upto x xs ∷ pruned numbers upto xs

-- A place has the content of another, or none.
abbrev pub IsLess : {B : Type 0} → Place B → Place B → Type 0
IsLess place other = (place ≡ other) ⊎ (place ≡ nothing)
