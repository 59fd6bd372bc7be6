-- Whether versions may have different content.
use Rattle.std.specs.Prelude.{◌≡◌, ◌⊎◌, ◌≤◌, ℕ, Bool, false, None, length, nat_lt}
use Rattle.std.specs.List.{list_any}
use Rattle.std.specs.Option.{option_map_or}
use Rattle.cell_store.specs.declared.owner.OwnerCells.{OwnerCells}
use Rattle.cell_store.specs.Column.{Cells, place_in}
use Rattle.cell_store.specs.Owner.{cell_in, column_of}

-- whether a column has more than one entry
abbrev pub is_mixed : Cells → Bool
is_mixed cells = nat_lt 1 (length cells.versions)

-- Each version that an admission has reached has the content of version 0.
abbrev pub IsEven : Cells → Type 0
IsEven cells = (v : ℕ) → v ≤ cells.upto → place_in cells v ≡ place_in cells 0

-- whether a type has a column with more than one entry
abbrev pub is_mixed_kind : OwnerCells → ℕ → Bool
is_mixed_kind cells kind = option_map_or is_mixed (column_of cells.kinds.items kind) false

-- whether some column of a name has more than one entry
abbrev pub has_mixed : OwnerCells → Bool
has_mixed cells = list_any (λ own. is_mixed own.column) cells.kinds.items

-- In each version each cell of a name has the content of version 0, or none.
abbrev pub IsLikeFirst : OwnerCells → Type 0
IsLikeFirst cells = (kind v : ℕ) → (cell_in cells kind v ≡ cell_in cells kind 0) ⊎ (cell_in cells kind v ≡ None)
