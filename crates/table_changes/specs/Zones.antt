-- The changes of zones and records.
use Rattle.std.specs.Prelude.{◌≡◌, ℕ, Bool, false, Option, Some, None}
use Rattle.std.specs.List.{list_any}
use Rattle.dns_name.specs.Options.{◌>>=◌}
use Rattle.dns_name.specs.Order.{name_eq}
use Rattle.change_law.specs.declared.fault.ChangeFault.{ChangeFault}
use Rattle.change_law.specs.Effect.{IsFaultFor}
use Rattle.local_zone.specs.declared.fault.TableFault.{TableFault}
use Rattle.local_zone.specs.declared.fault.TableFault.TheVariants.{BelowRedirect, DataBelow, CnameClash, TooMany, NoMemory}
use Rattle.local_zone.specs.Tables.{Tables}
use Rattle.local_zone.specs.Change.{after_set, after_drop, after_add, after_drop_name, has_zone}
use Rattle.local_zone.specs.Reason.{reason_of_set, reason_of_add}
use Rattle.table_changes.specs.declared.zones.ZoneChange.{ZoneChange}
use Rattle.table_changes.specs.declared.zones.ZoneChange.TheVariants.{SetZone, DropZone, AddRecord, DropName}

-- the zones and records after a change
abbrev pub zones_after : ZoneChange → Tables → Tables
zones_after (SetZone name kind) t = after_set (record { name = name; kind = kind }) t
zones_after (DropZone name) t = after_drop name t
zones_after (AddRecord new) t = after_add new t
zones_after (DropName name) t = after_drop_name name t

-- whether a change removes a zone or a record
abbrev pub zones_removed : ZoneChange → Tables → Bool
zones_removed (DropZone name) t = has_zone t.zones name
zones_removed (DropName name) t = list_any (λ r. name_eq r.owner name) t.records
zones_removed change t = false

-- the number of a fault's reason
abbrev pub zone_code : TableFault → Option ℕ
zone_code BelowRedirect = Some 1
zone_code DataBelow = Some 2
zone_code CnameClash = Some 3
zone_code TooMany = Some 4
zone_code NoMemory = None

-- the number of the reason to refuse a change, if there is one
abbrev pub zone_reason : ZoneChange → Tables → Option ℕ
zone_reason (SetZone name kind) t = reason_of_set (record { name = name; kind = kind }) t >>= zone_code
zone_reason (DropZone name) t = None
zone_reason (AddRecord new) t = reason_of_add new t >>= zone_code
zone_reason (DropName name) t = None

-- The change is made: there was no reason to refuse it, and the table is as after it.
abbrev pub MakesZoneChange : ZoneChange → Tables → Tables → Type 0
MakesZoneChange change before after = (zone_reason change before ≡ None) × (after ≡ zones_after change before)

-- The change failed by this fault: the fault has its reason, and the table is as it was.
abbrev pub FailsZoneChange : ZoneChange → Tables → Tables → ChangeFault → Type 0
FailsZoneChange change before after fault = IsFaultFor (zone_reason change before) fault × (after ≡ before)
