-- The first of some names: the one whose last find ends first, by the cells as they are kept.
use Rattle.std.specs.Prelude.{◌≡◌, ◌⊎◌, ◌<◌, ◌≤◌, ℕ, max, List, [], Option, None, Some, IfSome, fold, length, slice_get, if◌then◌else◌}
use Rattle.std.specs.Option.{option_map_or}
use Rattle.dns_name.specs.Labels.{Labels}
use Rattle.dns_text.specs.declared.record.Question.{Question}
use Rattle.ranked.specs.declared.find.Find.{Find}
use Rattle.ranked.specs.declared.cell.Admitted.{Admitted}
use Rattle.ranked.specs.Flush.{covers}
use Rattle.ranked.specs.Oldest.{IsSooner}
use Rattle.cell_store.specs.declared.owner.KindColumn.{KindColumn}
use Rattle.cell_store.specs.declared.owner.OwnerCells.{OwnerCells}
use Rattle.cell_store.specs.Life.{life_end}
use Rattle.cell_store.specs.Owner.{cell_in, whole_held}
use Rattle.winner_tree.specs.Tree.{moment_at, IsBelow}
use Rattle.shelf.specs.declared.settling.Settling.{Settling}
use Rattle.shelf.specs.declared.shelf.KeptFlush.{KeptFlush}
use Rattle.shelf.specs.Settling.{settled_version}
use Rattle.shelf.specs.declared.oldest.Candidate.{Candidate}

-- the later of a second and the end of the find in a flush's version, if the flush covers the question
abbrev pub later_life : (ℕ → Option (Admitted Find)) → Question → ℕ → KeptFlush → ℕ
later_life cell question end own = if covers own.flush question then max end (life_end (cell own.number)) else end

-- the second in which the last find of a question ends, over its versions
abbrev pub kind_life : List KeptFlush → (ℕ → Option (Admitted Find)) → Question → ℕ
kind_life kept cell question = fold (later_life cell question) (life_end (cell 0)) kept

-- the cell of a type of a name in a version, whether or not the permanent flushes have reached the name
abbrev pub cell_at_name : List Settling → Labels → OwnerCells → ℕ → ℕ → Option (Admitted Find)
cell_at_name settlings name cells kind v = cell_in cells kind (settled_version settlings name v)

-- the later of a second and the end of the last find of a type
abbrev pub later_kind : List Settling → List KeptFlush → Labels → OwnerCells → ℕ → KindColumn → ℕ
later_kind settlings kept name cells end own = max end (kind_life kept (cell_at_name settlings name cells own.kind) (record { owner = name; kind = own.kind }))

-- the second in which the last find of a name ends
abbrev pub name_life : List Settling → List KeptFlush → Labels → OwnerCells → ℕ
name_life settlings kept name cells =
    fold (later_kind settlings kept name cells) (life_end (whole_held cells.whole (settled_version settlings name 0))) cells.kinds.items

-- the same of the name at a place; 0 if there is none
abbrev pub life_at : List Settling → List KeptFlush → List (Labels × OwnerCells) → ℕ → ℕ
life_at settlings kept entries place = option_map_or (λ entry. name_life settlings kept entry.0 entry.1) (slice_get entries place) 0

-- the name at a place; the root if there is none
abbrev pub name_at : List (Labels × OwnerCells) → ℕ → Labels
name_at entries place = option_map_or (λ entry. entry.0) (slice_get entries place) []

-- The name at one place is not after that at another.
abbrev pub IsBefore : List Settling → List KeptFlush → List (Labels × OwnerCells) → ℕ → ℕ → Type 0
IsBefore settlings kept entries a b = IsSooner (life_at settlings kept entries a) (name_at entries a) (life_at settlings kept entries b) (name_at entries b)

-- It is the name at its place, and a find of it is alive at a moment.
pub record IsCandidate (settlings : List Settling) (kept : List KeptFlush) (entries : List (Labels × OwnerCells)) (t : ℕ) (own : Candidate) : Type 0 where
  pub end : own.end ≡ life_at settlings kept entries own.place
  pub name : own.name.now ≡ name_at entries own.place
  pub alive : t < own.end

-- A candidate is not after the name at a place, unless that has no find alive at a moment. If there is no candidate, it has none.
abbrev pub Beats : List Settling → List KeptFlush → List (Labels × OwnerCells) → ℕ → Option Candidate → ℕ → Type 0
Beats settlings kept entries t None i = life_at settlings kept entries i ≤ t
Beats settlings kept entries t (Some own) i = t < life_at settlings kept entries i → IsBefore settlings kept entries own.place i

-- A candidate is not after another, if there is another.
abbrev pub IsNoLater : Option Candidate → Option Candidate → Type 0
IsNoLater _ None = Unit {0}
IsNoLater None (Some other) = ⊥
IsNoLater (Some own) (Some other) = IsSooner own.end own.name.now other.end other.name.now

-- A candidate that is not after another one, nor after the names at some places that have a find alive at a moment.
pub record IsFirst (settlings : List Settling) (kept : List KeptFlush) (entries : List (Labels × OwnerCells)) (t : ℕ) (Among : ℕ → Type 0) (other own : Option Candidate) : Type 0 where
  pub candidate : IfSome own (IsCandidate settlings kept entries t)
  pub later : IsNoLater own other
  pub beats : (i : ℕ) → Among i → Beats settlings kept entries t own i

-- The last find of no name ends before its moment, once no permanent flush is left to reach names.
abbrev pub AreBounds : List Settling → List KeptFlush → List (Labels × OwnerCells) → List ℕ → Type 0
AreBounds settlings kept entries ends = settlings ≡ [] → (length ends ≡ length entries) × ((i : ℕ) → i < length ends → moment_at ends i ≤ life_at settlings kept entries i)

-- A candidate ends before each name at or below a node.
abbrev pub IsAhead : List Settling → List ℕ → ℕ → Option Candidate → Type 0
IsAhead settlings ends node None = ⊥
IsAhead settlings ends node (Some own) = (settlings ≡ []) × ((i : ℕ) → IsBelow node i → i < length ends → own.end < moment_at ends i)

-- A candidate is not after the name at a place, if that ends at its moment.
abbrev pub IsEnough : List Settling → List (Labels × OwnerCells) → List ℕ → ℕ → Option Candidate → Type 0
IsEnough settlings entries ends place None = ⊥
IsEnough settlings entries ends place (Some own) =
    (settlings ≡ []) × (place < length ends) × IsSooner own.end own.name.now (moment_at ends place) (name_at entries place)

-- One of two candidates, which is not after the other.
abbrev pub IsSoonerOf : Option Candidate → Option Candidate → Option Candidate → Type 0
IsSoonerOf None b result = result ≡ b
IsSoonerOf (Some a) None result = result ≡ Some a
IsSoonerOf (Some a) (Some b) result =
    ((result ≡ Some a) × IsSooner a.end a.name.now b.end b.name.now) ⊎ ((result ≡ Some b) × IsSooner b.end b.name.now a.end a.name.now)
