-- The changes of stubs.
use Rattle.std.specs.Prelude.{◌≡◌, ℕ, Bool, false, Option, Some, None}
use Rattle.dns_name.specs.Options.{◌>>=◌}
use Rattle.change_law.specs.declared.fault.ChangeFault.{ChangeFault}
use Rattle.change_law.specs.Effect.{IsFaultFor}
use Rattle.stub_table.specs.declared.fault.StubFault.{StubFault}
use Rattle.stub_table.specs.declared.fault.StubFault.TheVariants.{TooMany, NoMemory}
use Rattle.stub_table.specs.Stubs.{Stubs}
use Rattle.stub_table.specs.Change.{has_stub, stubs_with, stubs_without}
use Rattle.stub_table.specs.Reason.{reason_of_stub}
use Rattle.table_changes.specs.declared.stubs.StubChange.{StubChange}
use Rattle.table_changes.specs.declared.stubs.StubChange.TheVariants.{Set, Drop}

-- the stubs after a change
abbrev pub stubs_after : StubChange → Stubs → Stubs
stubs_after (Set new) stubs = stubs_with new stubs
stubs_after (Drop name) stubs = stubs_without name stubs

-- whether a change removes a stub
abbrev pub stubs_removed : StubChange → Stubs → Bool
stubs_removed (Set new) stubs = false
stubs_removed (Drop name) stubs = has_stub stubs name

-- the number of a fault's reason
abbrev pub stub_code : StubFault → Option ℕ
stub_code TooMany = Some 4
stub_code NoMemory = None

-- the number of the reason to refuse a change, if there is one
abbrev pub stub_reason : StubChange → Stubs → Option ℕ
stub_reason (Set new) stubs = reason_of_stub new stubs >>= stub_code
stub_reason (Drop name) stubs = None

-- The change is made: there was no reason to refuse it, and the table is as after it.
abbrev pub MakesStubChange : StubChange → Stubs → Stubs → Type 0
MakesStubChange change before after = (stub_reason change before ≡ None) × (after ≡ stubs_after change before)

-- The change failed by this fault: the fault has its reason, and the table is as it was.
abbrev pub FailsStubChange : StubChange → Stubs → Stubs → ChangeFault → Type 0
FailsStubChange change before after fault = IsFaultFor (stub_reason change before) fault × (after ≡ before)
