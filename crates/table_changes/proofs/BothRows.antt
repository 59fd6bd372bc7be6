-- What `PartRows` asks, at the two tables.
use Rattle.std.proofs.Common.{List}
use Rattle.change_law.specs.declared.kept.KeptChange.{KeptChange}
use Rattle.local_zone.specs.Tables as local
use Rattle.local_zone.specs.Saved as zone
use Rattle.stub_table.specs.Saved as stub
use Rattle.stub_table.specs.Stubs.{Stubs}
use Rattle.table_changes.specs.Both.{of_zones, of_stubs, KeepsBoth}
use Rattle.table_changes.specs.Part.{part}
use Rattle.table_changes.specs.TableRow.{KeepsRow}
use Rattle.history.specs.declared.tables.Tables.{Tables}
use Rattle.table_changes.specs.declared.tables.TableWorld.{TableWorld}
use Rattle.table_changes.specs.declared.tables.SavedTable.{SavedTable}

abbrev pub zones_tab : TableWorld → local.Tables
zones_tab t = t.tables.local

abbrev pub stubs_tab : TableWorld → Stubs
stubs_tab t = t.tables.stubs

abbrev pub zones_with_stubs : local.Tables → Stubs → Tables
zones_with_stubs zones stubs = record { local = zones; stubs = stubs }

abbrev pub stubs_with_zones : Stubs → local.Tables → Tables
stubs_with_zones stubs zones = record { local = zones; stubs = stubs }

pub zones_split : (t : TableWorld) (kept : List (KeptChange SavedTable)) → KeepsBoth t kept → KeepsRow zone.before_of zone.TakesBack t.tables.local (part of_zones kept) × KeepsRow stub.before_of stub.TakesBack t.tables.stubs (part of_stubs kept)
zones_split t kept h = h

pub stubs_split : (t : TableWorld) (kept : List (KeptChange SavedTable)) → KeepsBoth t kept → KeepsRow stub.before_of stub.TakesBack t.tables.stubs (part of_stubs kept) × KeepsRow zone.before_of zone.TakesBack t.tables.local (part of_zones kept)
stubs_split t kept h = (h.1, h.0)

pub zones_join : (t : TableWorld) (kept : List (KeptChange SavedTable)) → KeepsRow zone.before_of zone.TakesBack t.tables.local (part of_zones kept) → KeepsRow stub.before_of stub.TakesBack t.tables.stubs (part of_stubs kept) → KeepsBoth t kept
zones_join t kept a b = (a, b)

pub stubs_join : (t : TableWorld) (kept : List (KeptChange SavedTable)) → KeepsRow stub.before_of stub.TakesBack t.tables.stubs (part of_stubs kept) → KeepsRow zone.before_of zone.TakesBack t.tables.local (part of_zones kept) → KeepsBoth t kept
stubs_join t kept a b = (b, a)
