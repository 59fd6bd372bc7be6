-- The changes of both tables.
use Rattle.std.specs.Prelude.{ℕ, Bool, Option, Some, None, List}
use Rattle.change_law.specs.declared.kept.KeptChange.{KeptChange}
use Rattle.change_law.specs.Face.{Face}
use Rattle.local_zone.specs.declared.saved.SavedTables.{SavedTables}
use Rattle.local_zone.specs.Saved as zone
use Rattle.stub_table.specs.declared.saved.SavedStubs.{SavedStubs}
use Rattle.stub_table.specs.Saved as stub
use Rattle.history.specs.declared.event.Command.{Command}
use Rattle.history.specs.declared.event.Command.TheVariants.{SetZone, DropZone, AddRecord, DropName, SetStub, DropStub}
use Rattle.history.specs.declared.tables.Tables.{Tables}
use Rattle.table_changes.specs.Part.{part}
use Rattle.table_changes.specs.TableRow.{table_by, face_of, KeepsRow}
use Rattle.table_changes.specs.Stubs.{stubs_after, stubs_removed, stub_reason}
use Rattle.table_changes.specs.Zones.{zones_after, zones_removed, zone_reason}
use Rattle.table_changes.specs.declared.stubs.StubChange.TheVariants as stubs
use Rattle.table_changes.specs.declared.zones.ZoneChange.TheVariants as zones
use Rattle.table_changes.specs.declared.tables.TableWorld.{TableWorld}
use Rattle.table_changes.specs.declared.tables.SavedTable.{SavedTable}
use Rattle.table_changes.specs.declared.tables.SavedTable.TheVariants as saved
use Rattle.table_changes.specs.declared.tables.TableChange.{TableChange}
use Rattle.table_changes.specs.declared.tables.TableChange.TheVariants as change

-- the saved value, if a change of the zones and records saved it
abbrev pub of_zones : SavedTable → Option SavedTables
of_zones (saved.Zones s) = Some s
of_zones (saved.Stubs s) = None

-- the saved value, if a change of the stubs saved it
abbrev pub of_stubs : SavedTable → Option SavedStubs
of_stubs (saved.Zones s) = None
of_stubs (saved.Stubs s) = Some s

-- the number of the table to which a saved value belongs
abbrev pub saved_table : SavedTable → Option ℕ
saved_table (saved.Zones s) = Some 1
saved_table (saved.Stubs s) = Some 2

-- the number of the table that a change touches
abbrev pub change_table : TableChange → Option ℕ
change_table (change.Zones c) = Some 1
change_table (change.Stubs c) = Some 2

-- the change that a command makes; a flush makes none
abbrev pub change_of : Command → Option TableChange
change_of (SetZone name kind) = Some (change.Zones (zones.SetZone name kind))
change_of (DropZone name) = Some (change.Zones (zones.DropZone name))
change_of (AddRecord new) = Some (change.Zones (zones.AddRecord new))
change_of (DropName name) = Some (change.Zones (zones.DropName name))
change_of (SetStub new) = Some (change.Stubs (stubs.Set new))
change_of (DropStub name) = Some (change.Stubs (stubs.Drop name))
change_of command = None

-- both tables after a change
abbrev pub change_after : TableChange → Tables → Tables
change_after (change.Zones c) t = record { local = zones_after c t.local; stubs = t.stubs }
change_after (change.Stubs c) t = record { local = t.local; stubs = stubs_after c t.stubs }

-- whether a change removes something
abbrev pub change_removes : TableChange → Tables → Bool
change_removes (change.Zones c) t = zones_removed c t.local
change_removes (change.Stubs c) t = stubs_removed c t.stubs

-- whether the next step of a change may need memory, and the one after that
abbrev pub saved_needs : SavedTable → Bool
saved_needs (saved.Zones s) = zone.needs_memory s
saved_needs (saved.Stubs s) = stub.needs_memory s

abbrev pub saved_needs_after : SavedTable → Bool
saved_needs_after (saved.Zones s) = zone.needs_memory_after s
saved_needs_after (saved.Stubs s) = stub.needs_memory_after s

-- the number of the reason to refuse a change, if there is one
abbrev pub change_reason : TableChange → Tables → Option ℕ
change_reason (change.Zones c) t = zone_reason c t.local
change_reason (change.Stubs c) t = stub_reason c t.stubs

-- Each table keeps its changes.
abbrev pub KeepsBoth : TableWorld → List (KeptChange SavedTable) → Type 0
KeepsBoth w kept =
    KeepsRow zone.before_of zone.TakesBack w.tables.local (part of_zones kept) × KeepsRow stub.before_of stub.TakesBack w.tables.stubs (part of_stubs kept)

-- the tables, if only the chosen ones of their changes were in effect
abbrev pub tables_by : TableWorld → List (KeptChange SavedTable) → (ℕ → Bool) → Tables
tables_by w kept chosen = record {
  local = table_by zone.before_of w.tables.local (part of_zones kept) chosen;
  stubs = table_by stub.before_of w.tables.stubs (part of_stubs kept) chosen;
}

-- the same, as a face of the world
abbrev pub face_by : TableWorld → List (KeptChange SavedTable) → (ℕ → Bool) → Face Tables
face_by w kept chosen = face_of (tables_by w kept chosen)

-- the tables as they are
abbrev pub shown_tables : TableWorld → Face Tables
shown_tables w = face_of w.tables
