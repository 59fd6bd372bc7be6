-- Tables have no cells, so no find ends.
use Rattle.std.proofs.Common.{◌≡◌, ℕ, Some, None, List}
use Rattle.change_law.specs.declared.kept.KeptChange.{KeptChange}
use Rattle.ranked.specs.Oldest.{NoneEnds}
use Rattle.change_law.specs.Oldest.{IsEnding}
use Rattle.table_changes.specs.Both.{saved_table, face_by}
use Rattle.table_changes.specs.declared.tables.SavedTable.{SavedTable}
use Rattle.table_changes.specs.declared.tables.TableWorld.{TableWorld}

pub none_ends : (world : TableWorld) (kept : List (KeptChange SavedTable)) (t : ℕ) → NoneEnds (IsEnding saved_table face_by world kept t)
none_ends world kept t name end is = let none : None ≡ Some is.held = is.alive in absurd cc
