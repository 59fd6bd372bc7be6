-- Records of one zone, which a removal takes together.
use Rattle.std.specs.Prelude.{◌≡◌, ⊤, true, ℕ, List, length, Option, if◌then◌else◌}
use Rattle.std.specs.List.{AllByRecursion}
use Rattle.dns_name.specs.Labels.{Labels}
use Rattle.dns_text.specs.declared.record.Record.{Record}
use Rattle.local_zone.specs.declared.added.RecordTurn.{RecordTurn}
use Rattle.local_zone.specs.declared.added.RecordTurn.TheVariants.{Removed, Removes}
use Rattle.local_zone.specs.declared.taken.Taken.{Taken}
use Rattle.local_zone.specs.declared.zone.Zone.{Zone}
use Rattle.local_zone.specs.Closest.{closest}
use Rattle.local_zone.specs.Count.{same_zone}
use Rattle.local_zone.specs.CountsBelow.{count_zoned, is_zone_below, CountLessBy, CountMoreBy}
use Rattle.local_zone.specs.Gaps.{at_gaps, records_of}

-- One zone covers the owners of all that was taken, or no zone covers any.
pub record LieTogether (zones : List Zone) (taken : List Taken) : Type 0 where
  pub found : Option Zone
  pub all : AllByRecursion (λ t. same_zone found (closest zones t.item.owner) ≡ true) taken

-- The same of the records at these gaps.
abbrev pub LieTogetherAt : List Zone → List ℕ → List Record → Type 0
LieTogetherAt zones gaps records = LieTogether zones (at_gaps gaps records)

-- What a step takes out or puts back lies in one zone.
abbrev pub MoveTogether : RecordTurn → List Zone → List Record → Type 0
MoveTogether (Removed removed) zones records = LieTogether zones removed
MoveTogether (Removes gaps) zones records = LieTogether zones (at_gaps gaps.items records)
MoveTogether _ zones records = ⊤

-- ---- the counts of records that lie in zones strictly below a name

-- All records that were taken count for each name above this zone, and none counts for another name.
abbrev pub CountsAboveZone : List Zone → List Taken → Option Zone → Type 0
CountsAboveZone zones taken zone = (name : Labels) → count_zoned zones name (records_of taken) ≡ (if is_zone_below name zone then length taken else 0)

-- The counts have the records that come back, each for the names above its zone.
abbrev pub CountsTaken : List Zone → List Taken → List (List ℕ × ℕ) → List (List ℕ × ℕ) → Type 0
CountsTaken zones taken old new = CountMoreBy (λ name. count_zoned zones name (records_of taken)) old new

-- The counts have the records that were taken no more.
abbrev pub UncountsTaken : List Zone → List Taken → List (List ℕ × ℕ) → List (List ℕ × ℕ) → Type 0
UncountsTaken zones taken old new = CountLessBy (λ name. count_zoned zones name (records_of taken)) old new
