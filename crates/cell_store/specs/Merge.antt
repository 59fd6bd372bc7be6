-- Entries with the same content.
use Rattle.std.specs.Prelude.{◌≡◌, ℕ, ◌+◌, ◌<◌, ◌==◌, ◌&&◌, Bool, true, false, List, Option, Some, None, nat_lt, slice_index_or, if◌then◌else◌}
use Rattle.std.proofs.Math.Bool.{beq}
use Rattle.ranked.specs.declared.cell.Admitted.{Admitted}
use Rattle.ranked.specs.Rank.{level_of}
use Rattle.cell_store.specs.declared.version.Version.{Version}

-- whether two cells have the same content
abbrev pub same_held : Option (Admitted ℕ) → Option (Admitted ℕ) → Bool
same_held None None = true
same_held (Some a) (Some b) = level_of a.rank == level_of b.rank && (a.ttl == b.ttl && (a.since == b.since && a.body == b.body))
same_held _ _ = false

-- whether another entry has the content of an entry
abbrev pub holds_same : Version ℕ → Version ℕ → Bool
holds_same version other = beq version.place.left other.place.left && same_held version.place.cell.held other.place.cell.held

-- the entry, starting at a version if it started later
abbrev pub started : ℕ → Version ℕ → Version ℕ
started number version = record { from = if nat_lt number version.from then number else version.from; place = version.place }

-- Among the first entries, no two neighbours have the same content.
abbrev pub AreApart : List (Version ℕ) → ℕ → Type 0
AreApart versions count = (i : ℕ) (d : Version ℕ) → i + 1 < count → holds_same (slice_index_or versions i d) (slice_index_or versions (i + 1) d) ≡ false
