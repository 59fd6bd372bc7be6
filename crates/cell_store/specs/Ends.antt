-- The first moment at which a find is dead: of a cell, a column and a name.
use Rattle.std.specs.Prelude.{ℕ, ◌+◌, ◌==◌, min, fold, List, Option, None, Some, if◌then◌else◌}
use Rattle.ranked.specs.declared.cell.Admitted.{Admitted}
use Rattle.cell_store.specs.declared.version.Version.{Version}
use Rattle.cell_store.specs.declared.owner.KindColumn.{KindColumn}
use Rattle.cell_store.specs.declared.owner.OwnerCells.{OwnerCells}
use Rattle.cell_store.specs.Owner.{whole_cell}

-- the latest moment: an empty cell ends then
abbrev pub latest : ℕ
latest = 18446744073709551615

-- the moment at which a cell ends; a find with TTL 0 is never alive
abbrev pub cell_end : {B : Type 0} → Option (Admitted B) → ℕ
cell_end None = latest
cell_end (Some held) = if held.ttl == 0 then 0 else min (held.since + held.ttl) latest

-- the earlier of a moment and that at which an entry ends
abbrev pub earlier : {B : Type 0} → ℕ → Version B → ℕ
earlier end version = min end (cell_end version.place.cell.held)

-- the first moment at which an entry ends
abbrev pub first_end : {B : Type 0} → List (Version B) → ℕ
first_end versions = fold earlier latest versions

-- the earlier of a moment and that at which a column ends
abbrev pub kind_earlier : ℕ → KindColumn → ℕ
kind_earlier end own = min end (first_end own.column.versions)

-- the first moment at which a find of a name is dead
abbrev pub name_end : OwnerCells → ℕ
name_end cells = fold kind_earlier (cell_end (whole_cell cells.whole)) cells.kinds.items
