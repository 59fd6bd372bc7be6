-- The local zones, records and stubs that commands make, and why one is refused.
use Rattle.std.specs.Prelude.{List, [], Option, Some, None, fold}
use Rattle.local_zone.specs.declared.fault.TableFault.{TableFault}
use Rattle.local_zone.specs.declared.fault.TableFault.TheVariants as fault
use Rattle.local_zone.specs.Tables.{Tables as LocalTables}
use Rattle.local_zone.specs.Change.{after_set, after_drop, after_add, after_drop_name}
use Rattle.local_zone.specs.Reason.{reason_of_set, reason_of_add}
use Rattle.stub_table.specs.declared.fault.StubFault.{StubFault}
use Rattle.stub_table.specs.declared.fault.StubFault.TheVariants as stub_fault
use Rattle.stub_table.specs.Stubs.{Stubs}
use Rattle.stub_table.specs.Change.{stubs_with, stubs_without}
use Rattle.stub_table.specs.Reason.{reason_of_stub}
use Rattle.history.specs.declared.event.Command.{Command}
use Rattle.history.specs.declared.event.Command.TheVariants.{FlushType, Flush, FlushZone, SetZone, DropZone, AddRecord, DropName, SetStub, DropStub}
use Rattle.history.specs.declared.event.Event.{Event}
use Rattle.history.specs.declared.event.Event.TheVariants.{Do}
use Rattle.history.specs.declared.event.Entry.{Entry}
use Rattle.history.specs.declared.event.Reason.{Reason}
use Rattle.history.specs.declared.event.Reason.TheVariants.{BelowRedirect, DataBelow, CnameClash, TooMany}
use Rattle.history.specs.declared.tables.Tables.{Tables}

-- no zones, no records and no stubs
abbrev pub no_tables : Tables
no_tables = record { local = record { zones = []; records = [] }; stubs = [] }

-- the tables with these zones and records
abbrev pub with_local : Tables → LocalTables → Tables
with_local t local = record { local = local; stubs = t.stubs }

-- the tables with these stubs
abbrev pub with_stubs : Tables → Stubs → Tables
with_stubs t stubs = record { local = t.local; stubs = stubs }

-- the tables after a command
abbrev pub after_command_on : Command → Tables → Tables
after_command_on (FlushType target) t = t
after_command_on (Flush name) t = t
after_command_on (FlushZone name) t = t
after_command_on (SetZone name kind) t = with_local t (after_set (record { name = name; kind = kind }) t.local)
after_command_on (DropZone name) t = with_local t (after_drop name t.local)
after_command_on (AddRecord new) t = with_local t (after_add new t.local)
after_command_on (DropName name) t = with_local t (after_drop_name name t.local)
after_command_on (SetStub new) t = with_stubs t (stubs_with new t.stubs)
after_command_on (DropStub name) t = with_stubs t (stubs_without name t.stubs)

-- the tables after an event: commands alone change them
abbrev pub after_event_on : Event → Tables → Tables
after_event_on (Do moment command) t = after_command_on command t
after_event_on event t = t

-- the tables after one entry more
abbrev pub tables_after : Tables → Entry → Tables
tables_after t entry = after_event_on entry.event t

-- the tables after these entries, from empty ones
abbrev pub tables_by : List Entry → Tables
tables_by entries = fold tables_after no_tables entries

-- the tables after a command for which there may be a reason to refuse it
abbrev pub unless_refused : Option Reason → Command → Tables → Tables
unless_refused None command t = after_command_on command t
unless_refused (Some reason) command t = t

-- the reason for a fault of the table; want of memory is none
abbrev pub reason_told : TableFault → Option Reason
reason_told fault.BelowRedirect = Some BelowRedirect
reason_told fault.DataBelow = Some DataBelow
reason_told fault.CnameClash = Some CnameClash
reason_told fault.TooMany = Some TooMany
reason_told fault.NoMemory = None

-- the reason for a fault of the table, if there is one
abbrev pub reason_in : Option TableFault → Option Reason
reason_in None = None
reason_in (Some told) = reason_told told

-- the reason for a fault of the stubs; want of memory is none
abbrev pub stub_reason_told : StubFault → Option Reason
stub_reason_told stub_fault.TooMany = Some TooMany
stub_reason_told stub_fault.NoMemory = None

-- the reason for a fault of the stubs, if there is one
abbrev pub stub_reason_in : Option StubFault → Option Reason
stub_reason_in None = None
stub_reason_in (Some told) = stub_reason_told told

-- Why these tables refuse a command. They never refuse a flush or a drop.
abbrev pub reason_on : Tables → Command → Option Reason
reason_on t (FlushType target) = None
reason_on t (Flush name) = None
reason_on t (FlushZone name) = None
reason_on t (SetZone name kind) = reason_in (reason_of_set (record { name = name; kind = kind }) t.local)
reason_on t (DropZone name) = None
reason_on t (AddRecord new) = reason_in (reason_of_add new t.local)
reason_on t (DropName name) = None
reason_on t (SetStub new) = stub_reason_in (reason_of_stub new t.stubs)
reason_on t (DropStub name) = None
