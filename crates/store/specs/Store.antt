-- The tables and the cache as one world, and its changes.
use Rattle.std.specs.Prelude.{ℕ, Bool, true, false, Option, Some, None, List}
use Rattle.dns_text.specs.declared.record.Question.{Question}
use Rattle.ranked.specs.Flush.{covers}
use Rattle.change_law.specs.declared.kept.KeptChange.{KeptChange}
use Rattle.change_law.specs.Face.{Face}
use Rattle.history.specs.declared.tables.Tables.{Tables}
use Rattle.table_changes.specs.Both.{saved_needs, saved_needs_after, saved_table, change_table, change_removes, change_after, change_reason, shown_tables, KeepsBoth}
use Rattle.table_changes.specs.Both as tables
use Rattle.table_changes.specs.declared.tables.TableWorld.{TableWorld}
use Rattle.table_changes.specs.declared.tables.SavedTable.{SavedTable}
use Rattle.store.specs.Sum.{joined, KeepsParts, face_of_parts}
use Rattle.store.specs.World.{Shelved, KeepsFlushes, shown_face}
use Rattle.store.specs.World as cells
use Rattle.store.specs.declared.world.SavedFlush.{SavedFlush}
use Rattle.store.specs.declared.store.WayBack.{WayBack}
use Rattle.store.specs.declared.store.WayBack.TheVariants as way
use Rattle.store.specs.declared.store.SavedChange.{SavedChange}
use Rattle.store.specs.declared.store.Made.{Made}
use Rattle.store.specs.declared.store.Made.TheVariants as made
use Rattle.store.specs.declared.store.Store.{Store}

-- the two parts
abbrev pub tables_in : Store → TableWorld
tables_in store = store.tables

abbrev pub cells_in : Store → Shelved
cells_in store = store.cells

-- what a change of the tables saved, and what a flush saved
abbrev pub table_way : WayBack → Option SavedTable
table_way (way.Table saved) = Some saved
table_way (way.Flush saved) = None

abbrev pub flush_way : WayBack → Option SavedFlush
flush_way (way.Table saved) = None
flush_way (way.Flush saved) = Some saved

abbrev pub of_tables : SavedChange → Option SavedTable
of_tables saved = table_way saved.way

abbrev pub of_cells : SavedChange → Option SavedFlush
of_cells saved = flush_way saved.way

-- the number of the table; a flush is of none
abbrev pub table_of : WayBack → Option ℕ
table_of (way.Table saved) = saved_table saved
table_of (way.Flush saved) = None

abbrev pub store_table : SavedChange → Option ℕ
store_table saved = table_of saved.way

-- whether the next step of a change may need memory, and the one after that; none of a flush does
abbrev pub needs_memory_of : WayBack → Bool
needs_memory_of (way.Table saved) = saved_needs saved
needs_memory_of (way.Flush saved) = false

abbrev pub needs_after_of : WayBack → Bool
needs_after_of (way.Table saved) = saved_needs_after saved
needs_after_of (way.Flush saved) = false

-- Each part keeps its changes.
abbrev pub KeepsStore : Store → List (KeptChange SavedChange) → Type 0
KeepsStore = KeepsParts tables_in cells_in of_tables of_cells KeepsBoth KeepsFlushes

-- the tables and the cells, if only the chosen ones of the changes were in effect
abbrev pub store_face : Store → List (KeptChange SavedChange) → (ℕ → Bool) → Face Tables
store_face = face_of_parts tables_in cells_in of_tables of_cells tables.face_by cells.face_by

-- the tables as they are, and what the cache shows
abbrev pub store_shown : Store → Face Tables
store_shown store = joined (shown_tables store.tables) (shown_face store.cells)

-- what a change does: to the tables, or to the cells
abbrev pub reason_of_made : Made → Tables → Option ℕ
reason_of_made (made.Table change) t = change_reason change t
reason_of_made (made.Flush change) t = None

abbrev pub after_made : Made → Tables → Tables
after_made (made.Table change) t = change_after change t
after_made (made.Flush change) t = t

abbrev pub removes_made : Made → Tables → Bool
removes_made (made.Table change) t = change_removes change t
removes_made (made.Flush change) t = false

abbrev pub empties_made : Made → Question → Bool
empties_made (made.Table change) q = false
empties_made (made.Flush change) q = covers change.flush q

abbrev pub table_of_made : Made → Option ℕ
table_of_made (made.Table change) = change_table change
table_of_made (made.Flush change) = None
