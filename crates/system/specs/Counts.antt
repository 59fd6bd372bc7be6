-- The count of failures.
use Rattle.std.specs.Prelude.{◌≡◌, ◌⊎◌, ℕ, ◌+◌, ◌-◌, ◌^◌, Result, Ok, Err}
use Rattle.system.specs.declared.device.DeviceFault.{DeviceFault}
use Rattle.system.specs.declared.device.DeviceFault.TheVariants.{Device, NoMemory}

-- The count rises by one, unless it is at its last value.
abbrev pub Rises : ℕ → ℕ → Type 0
Rises old new = (new ≡ old + 1) ⊎ ((old ≡ 2 ^ 64 - 1) × (new ≡ old))

-- A call that fails is counted, and no other is.
abbrev pub CountsFault : {A : Type 0} → Result A DeviceFault → ℕ → ℕ → Type 0
CountsFault (Ok _) old new = new ≡ old
CountsFault (Err Device) old new = Rises old new
CountsFault (Err NoMemory) old new = new ≡ old
