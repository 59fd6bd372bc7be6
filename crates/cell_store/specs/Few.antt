-- The number of entries of a column, at most five: two finds of one column have different ranks, since the newer one left only finds that outrank it.
use Rattle.std.specs.Prelude.{ℕ, ◌+◌, ◌≤◌, max, Bool, true, false, nat_le, ◌≡◌, List, [], ◌∷◌, length, map, Option, Some, None, if◌then◌else◌}
use Rattle.ranked.specs.declared.cell.Admitted.{Admitted}
use Rattle.std.specs.List.{AllByRecursion}
use Rattle.ranked.specs.Rank.{level_of}
use Rattle.cell_store.specs.declared.version.Place.{Place}
use Rattle.cell_store.specs.declared.version.Version.{Version}
use Rattle.cell_store.specs.Merge.{same_held}

-- the number of neighbours that differ
abbrev pub turns : {A : Type 0} → (A → A → Bool) → A → List A → ℕ
turns same x [] = 0
turns same x (y ∷ ys) = (if same x y then 0 else 1) + turns same y ys

-- the last of a list that is not empty
abbrev pub last : {A : Type 0} → A → List A → A
last x [] = x
last x (y ∷ ys) = last y ys

-- the content, if it is above a rank
abbrev pub above_by : {A : Type 0} → (A → ℕ) → ℕ → A → Option A
above_by rank q a = if nat_le (rank a) q then None else Some a

-- whether two are equal, or both None
abbrev pub equal_by : {A : Type 0} → (A → A → Bool) → Option A → Option A → Bool
equal_by same None None = true
equal_by same (Some a) (Some b) = same a b
equal_by same None (Some b) = false
equal_by same (Some a) None = false

-- Above any rank, the neighbours that differ are at most the ranks above it and above that of the last.
abbrev pub AreFewBy : {A : Type 0} → (A → ℕ) → (A → A → Bool) → A → List A → Type 0
AreFewBy rank same x xs =
    (q : ℕ) → q ≤ 4 → turns (equal_by same) (above_by rank q x) (map (above_by rank q) xs) + max q (rank (last x xs)) ≤ 4

-- the content of a place: None is a reference to the whole name, and Some None is nothing
abbrev pub content : {B : Type 0} → Place B → Option (Option (Admitted B))
content place = if place.left then None else Some place.cell.held

-- 0 of nothing, 1 to 4 of a find, and 4 of a reference to the whole name
abbrev pub rank_of : {B : Type 0} → Option (Option (Admitted B)) → ℕ
rank_of None = 4
rank_of (Some None) = 0
rank_of (Some (Some held)) = level_of held.rank

-- whether two places have the same content
abbrev pub same_content : Option (Option (Admitted ℕ)) → Option (Option (Admitted ℕ)) → Bool
same_content None None = true
same_content (Some a) (Some b) = same_held a b
same_content None (Some b) = false
same_content (Some a) None = false

-- the content of each entry
abbrev pub contents : {B : Type 0} → List (Version B) → List (Option (Option (Admitted B)))
contents versions = map (λ version. content version.place) versions

-- The contents of a column's entries change as seldom as their ranks allow.
abbrev pub AreFew : List (Option (Option (Admitted ℕ))) → Type 0
AreFew [] = Unit {0}
AreFew (x ∷ xs) = AreFewBy rank_of same_content x xs

-- Each entry has another content than the one before it.
abbrev pub DoDiffer : List (Option (Option (Admitted ℕ))) → Type 0
DoDiffer [] = Unit {0}
DoDiffer (x ∷ xs) = turns same_content x xs ≡ length xs

-- A reference to the whole name has no find of its own.
abbrev pub IsLeftEmpty : {B : Type 0} → Version B → Type 0
IsLeftEmpty version = version.place.left ≡ true → version.place.cell.held ≡ None

-- The entries of a column: references to the whole name have no find, and contents change as seldom as ranks allow.
abbrev pub AreRanked : List (Version ℕ) → Type 0
AreRanked versions = AllByRecursion IsLeftEmpty versions × AreFew (contents versions)
