-- The places of the index by the seconds in which the last finds of their names end, and the tree that finds the first.
use Rattle.std.specs.Prelude.{◌≡◌, ◌⊎◌, ◌<◌, ◌≤◌, ◌+◌, ◌*◌, [], ℕ, List, Option, length, position, slice_index_or, swap_remove, vec_capacity}
use Rattle.std.specs.Map.{keys_of}
use Rattle.indexmap.specs.IndexMap.{swap_remove_entry}
use Rattle.dns_name.specs.Labels.{Labels}
use Rattle.dns_name.specs.Order.{name_eq}
use Rattle.cell_store.specs.declared.owner.OwnerCells.{OwnerCells}
use Rattle.cell_store.specs.Store.{StayBut}
use Rattle.winner_tree.specs.Tree.{moment_at, IsBelow}
use Rattle.shelf.specs.declared.lasts.Lasts.{Lasts}
use Rattle.shelf.specs.declared.oldest.Candidate.{Candidate}
use Rattle.shelf.specs.declared.settling.Settling.{Settling}
use Rattle.shelf.specs.declared.shelf.KeptFlush.{KeptFlush}
use Rattle.ranked.specs.Oldest.{IsSooner}
use Rattle.shelf.specs.First.{life_at, name_at, IsCandidate}

-- the second of a place; 0 if it is not there
abbrev pub last_at : List ℕ → ℕ → ℕ
last_at lasts place = slice_index_or lasts place 0

-- the winner of a node
abbrev pub winner_at : List ℕ → ℕ → ℕ
winner_at winners node = slice_index_or winners node 0

-- A place does not come after another: its second is sooner, or it is the same and the name at the place does not come after the other.
abbrev pub Leads : List (Labels × OwnerCells) → List ℕ → ℕ → ℕ → Type 0
Leads entries lasts a b = IsSooner (last_at lasts a) (name_at entries a) (last_at lasts b) (name_at entries b)

-- A place does not come after a node, nor after the winners of its children.
pub record IsWinner (entries : List (Labels × OwnerCells)) (lasts winners : List ℕ) (node place : ℕ) : Type 0 where
  pub own : Leads entries lasts place node
  pub left : 2 * node + 1 < length winners → Leads entries lasts place (winner_at winners (2 * node + 1))
  pub right : 2 * node + 2 < length winners → Leads entries lasts place (winner_at winners (2 * node + 2))

-- One of a place and the winner of a child, which does not come after the other.
pub record IsFirstOf (entries : List (Labels × OwnerCells)) (lasts winners : List ℕ) (place child first : ℕ) : Type 0 where
  pub one : (first ≡ place) ⊎ ((child < length winners) × (first ≡ winner_at winners child))
  pub own : Leads entries lasts first place
  pub other : child < length winners → Leads entries lasts first (winner_at winners child)

-- a node or the winner of one of its children
abbrev pub IsNodeOrWinner : List ℕ → ℕ → ℕ → Type 0
IsNodeOrWinner winners node place =
    (place ≡ node)
    ⊎ (((2 * node + 1 < length winners) × (place ≡ winner_at winners (2 * node + 1)))
    ⊎ ((2 * node + 2 < length winners) × (place ≡ winner_at winners (2 * node + 2))))

-- a place at or below a node, or the winner of such a place
abbrev pub IsUnder : List ℕ → ℕ → ℕ → Type 0
IsUnder winners node place = (i : ℕ) × ((i < length winners) × (IsBelow node i × ((place ≡ i) ⊎ (place ≡ winner_at winners i))))

-- No place at or below a node comes before its winner, unless one of the two is among some places.
abbrev pub IsFirstBut : (ℕ → Type 0) → List (Labels × OwnerCells) → List ℕ → List ℕ → ℕ → Type 0
IsFirstBut Some entries lasts winners node =
    (Some (winner_at winners node) → ⊥) → (place : ℕ) → IsUnder winners node place → (Some place → ⊥)
    → Leads entries lasts (winner_at winners node) place

-- the same of each node at or above a changed place, but for that place
abbrev pub AreFirstBut : ℕ → List (Labels × OwnerCells) → List ℕ → List ℕ → Type 0
AreFirstBut changed entries lasts winners =
    (i : ℕ) → i < length winners → IsBelow i changed → IsFirstBut (λ place. place ≡ changed) entries lasts winners i

-- the same of each node, but for a place and the last one, which has gone
abbrev pub AreFirstButGone : ℕ → List (Labels × OwnerCells) → List ℕ → List ℕ → Type 0
AreFirstButGone changed entries lasts winners =
    (i : ℕ) → i < length winners → IsFirstBut (λ place. (place ≡ changed) ⊎ (place ≡ length winners)) entries lasts winners i

-- Each winner is a place at or below its node, or was the winner of such a place.
abbrev pub HaveCome : List ℕ → List ℕ → Type 0
HaveCome old new = (i : ℕ) → i < length old → IsUnder old i (winner_at new i)

-- A place is the winner in the stead of the last one, which has gone, of each node at or above it. Each other node keeps its winner.
abbrev pub AreMoved : ℕ → List ℕ → List ℕ → Type 0
AreMoved place old new =
    (i : ℕ) → i < length old
    → ((winner_at old i ≡ length old) × (IsBelow i place × (winner_at new i ≡ place)))
    ⊎ ((winner_at new i ≡ winner_at old i) × (IsBelow i place → winner_at old i ≡ length old → ⊥))

-- The last place, which has gone, is no winner. A node that had it as its winner is right, and each other one has the winner that it had.
pub record AreLetGo (entries : List (Labels × OwnerCells)) (lasts old new : List ℕ) : Type 0 where
  pub gone : (i : ℕ) → i < length old → winner_at new i ≡ length old → ⊥
  pub right : (i : ℕ) → i < length old → winner_at old i ≡ length old → IsWinner entries lasts new i (winner_at new i)
  pub kept : (i : ℕ) → i < length old → (winner_at old i ≡ length old → ⊥) → winner_at new i ≡ winner_at old i

-- What is known of a node when a place at or below it has changed and the nodes below it are mended. The first at or below the child on
-- the way there does not come after the changed place, nor the node's winner after any other, unless it is the changed place itself.
pub record IsReady (entries : List (Labels × OwnerCells)) (lasts winners : List ℕ) (node changed first : ℕ) : Type 0 where
  pub next : IsNodeOrWinner winners node first
  pub leads : Leads entries lasts first changed
  pub others : (winner_at winners node ≡ changed → ⊥) → (j : ℕ) → IsNodeOrWinner winners node j → (j ≡ changed → ⊥)
      → Leads entries lasts (winner_at winners node) j

-- If that is known of a node, a place is its winner, and does not come after the changed one.
abbrev pub IsWinnerAgain : List (Labels × OwnerCells) → List ℕ → List ℕ → ℕ → ℕ → ℕ → ℕ → Type 0
IsWinnerAgain entries lasts winners node changed first place =
    IsReady entries lasts winners node changed first → IsWinner entries lasts winners node place × Leads entries lasts place changed

-- The winner of a node is right, by those of its children.
abbrev pub IsRight : List (Labels × OwnerCells) → List ℕ → List ℕ → ℕ → Type 0
IsRight entries lasts winners node = IsWinner entries lasts winners node (winner_at winners node)

-- Each node is right.
abbrev pub AreRight : List (Labels × OwnerCells) → List ℕ → List ℕ → Type 0
AreRight entries lasts winners = (i : ℕ) → i < length winners → IsRight entries lasts winners i

-- If no winner but a place and the last one, which has gone, was wrong, each node is right.
abbrev pub AreMendedOnceGone : ℕ → List (Labels × OwnerCells) → List ℕ → List ℕ → List ℕ → Type 0
AreMendedOnceGone place entries lasts old new = AreFirstButGone place entries lasts old → AreRight entries lasts new

-- Each winner is at or below its node.
abbrev pub AreWithin : List ℕ → Type 0
AreWithin winners = (i : ℕ) → i < length winners → IsBelow i (winner_at winners i)

-- Each of some nodes is right, and each other one if it was.
abbrev pub AreMended : (ℕ → Type 0) → List (Labels × OwnerCells) → List ℕ → List ℕ → List ℕ → Type 0
AreMended Some entries lasts old new = (i : ℕ) → i < length old → ((Some i → ⊥) → IsRight entries lasts old i) → IsRight entries lasts new i

-- If only a place has changed, the nodes at or above it are mended.
abbrev pub AreMendedFrom : ℕ → List (Labels × OwnerCells) → List ℕ → List ℕ → List ℕ → Type 0
AreMendedFrom place entries lasts old new = AreFirstBut place entries lasts old → AreMended (λ i. IsBelow i place) entries lasts old new

-- There is a winner for each place, at or below it.
abbrev pub IsShaped : Lasts → Type 0
IsShaped lasts = (length lasts.winners.items ≡ length lasts.ends.items) × AreWithin lasts.winners.items

-- There is a place for each name, and each winner is right.
pub record AreWinners (entries : List (Labels × OwnerCells)) (lasts : Lasts) : Type 0 where
  pub size : length lasts.ends.items ≡ length entries
  pub shape : IsShaped lasts
  pub right : (i : ℕ) → i < length lasts.winners.items → IsRight entries lasts.ends.items lasts.winners.items i

-- The winners are right for the entries, if they were before the cells of one name changed, or one name came.
abbrev pub FollowNames : List (Labels × OwnerCells) → Lasts → Lasts → Type 0
FollowNames entries old new = (name : Labels) (olds : List (Labels × OwnerCells)) → StayBut name olds entries → AreWinners olds old → AreWinners entries new

-- The same, if the name at a place has gone since.
abbrev pub FollowRemoved : ℕ → List (Labels × OwnerCells) → Lasts → Lasts → Type 0
FollowRemoved place entries old new =
    (olds : List (Labels × OwnerCells)) (d : Labels × OwnerCells) → entries ≡ swap_remove olds place d → AreWinners olds old → AreWinners entries new

-- The same, by the place that a look-up found for the name.
abbrev pub FollowGone : Option ℕ → List (Labels × OwnerCells) → Lasts → Lasts → Type 0
FollowGone place entries old new = (olds : List (Labels × OwnerCells)) (name : Labels) → place ≡ position (name_eq name) (keys_of olds) →
    entries ≡ swap_remove_entry (name_eq name) olds → AreWinners olds old → AreWinners entries new

-- There is room for one place more.
abbrev pub HaveRoom : Lasts → Type 0
HaveRoom lasts = (length lasts.ends.items < vec_capacity lasts.ends) × (length lasts.winners.items < vec_capacity lasts.winners)

-- The places have the same seconds and winners.
abbrev pub AreSameLasts : Lasts → Lasts → Type 0
AreSameLasts old new = (new.ends.items ≡ old.ends.items) × (new.winners.items ≡ old.winners.items)

-- It is the name at a place, a find of it is alive at a moment, and its last find ends in the second of the place.
abbrev pub IsNoted : List Settling → List KeptFlush → List (Labels × OwnerCells) → List ℕ → ℕ → ℕ → Candidate → Type 0
IsNoted settlings kept entries lasts t place own =
    (own.place ≡ place) × IsCandidate settlings kept entries t own × (own.end ≡ last_at lasts place)

-- A sweep has visited each name since it changed, and no permanent flush is left to reach names.
abbrev pub AreVisited : List Settling → List ℕ → Type 0
AreVisited settlings moments = (settlings ≡ []) × ((i : ℕ) → IsBelow 0 i → i < length moments → 0 < moment_at moments i)

-- The last find of a name does not end before the second of its place, unless the next sweep is to visit the name.
abbrev pub AreLow : List KeptFlush → List (Labels × OwnerCells) → List ℕ → List ℕ → Type 0
AreLow kept entries moments lasts = (i : ℕ) → 0 < slice_index_or moments i 0 → last_at lasts i ≤ life_at [] kept entries i
