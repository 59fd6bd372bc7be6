-- An admission: what it leaves.
use Rattle.std.specs.Prelude.{◌≤◌, ◌+◌, ℕ, Result, IfErr, OnErr, OnOk}
use Rattle.ranked.specs.declared.find.Find.{Find}
use Rattle.shelf.specs.declared.fault.StoreFault.{StoreFault}
use Rattle.shelf.specs.declared.shelf.Shelf.{Shelf}
use Rattle.shelf.specs.Room.{IsFault}
use Rattle.shelf.specs.Stored.{IsByRoom}
use Rattle.shelf.specs.Told.{HasAdmitted, IsSame, IsShelf, KeepsFlushes}

-- What an admission leaves, or a refusal: a whole cache with the same flushes, in which one place more counts at most. A refusal has its reason, and changes no cell.
pub record IsAdmission {T : Type 0} (find : Find) (moment : ℕ) (old new : Shelf) (result : Result T StoreFault) : Type 0 where
  pub whole : IsShelf new
  pub admitted : OnOk result (HasAdmitted find moment old new)
  pub full : IfErr result (λ fault. IsFault old find moment fault)
  pub room : IsByRoom old find moment result
  pub same : OnErr result (IsSame old new)
  pub flushes : KeepsFlushes old new
  pub stored : new.stored ≤ old.stored + 1
