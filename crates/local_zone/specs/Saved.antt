-- The way back of a change.
use Rattle.std.specs.Prelude.{◌≡◌, ◌⊎◌, Bool, true, ◌||◌}
use Rattle.dns_name.specs.Labels.{Labels}
use Rattle.local_zone.specs.declared.saved.SavedTables.{SavedTables}
use Rattle.local_zone.specs.Change.{after_drop, after_drop_name, has_zone}
use Rattle.local_zone.specs.Tables.{Tables, AreTables}
use Rattle.named_list.specs.Turn.{other_of, puts_in, takes_out, HasPlace}
use Rattle.local_zone.specs.Added.{brings_back, records_other, records_need, records_need_after, takes_away, GoesBack}

-- the lists on the other side of a change, from the saved value and those on this side
abbrev pub before_of : SavedTables → Tables → Tables
before_of saved left = record { zones = other_of saved.zones left.zones; records = records_other saved.records left.records }

-- whether the step to the other side of a change may need memory
abbrev pub needs_memory : SavedTables → Bool
needs_memory saved = puts_in saved.zones || records_need saved.records

-- whether the step back from there may
abbrev pub needs_memory_after : SavedTables → Bool
needs_memory_after saved = takes_out saved.zones || records_need_after saved.records

-- A removal leads from the first lists to the others: that of a zone with the records that lie in it, or of the records of an owner.
abbrev pub IsRemoval : Tables → Tables → Type 0
IsRemoval full left =
    ((name : Labels) × ((has_zone full.zones name ≡ true) × (left ≡ after_drop name full))) ⊎ ((owner : Labels) × (left ≡ after_drop_name owner full))

-- From the lists that a change left, the saved value gives those before it.
pub record TakesBack (saved : SavedTables) (left before : Tables) : Type 0 where
  pub gives : before_of saved left ≡ before
  pub fits : HasPlace (λ z. z.name) saved.zones left.zones
  pub goes : GoesBack saved.records left.records
  pub sound : AreTables before
  pub brings : brings_back saved.records ≡ true → IsRemoval before left
  pub takes : takes_away saved.records ≡ true → IsRemoval left before

-- A change is on its other side: the lists are those of the other side, and the saved value leads back. The next step and the one after it need what they did, the other way round.
pub record TurnsOver (saved : SavedTables) (old : Tables) (saved' : SavedTables) (new : Tables) : Type 0 where
  pub other : new ≡ before_of saved old
  pub again : TakesBack saved' new old
  pub need : needs_memory saved' ≡ needs_memory_after saved
  pub need_after : needs_memory_after saved' ≡ needs_memory saved
