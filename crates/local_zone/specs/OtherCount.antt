-- How many records count for a name on the other side of a change.
use Rattle.std.specs.Prelude.{◌≡◌, ◌-◌, ℕ, true, List, if◌then◌else◌}
use Rattle.dns_name.specs.Labels.{Labels}
use Rattle.dns_text.specs.declared.record.Record.{Record}
use Rattle.named_list.specs.declared.turn.Turn.{Turn}
use Rattle.named_list.specs.Turn.{other_of}
use Rattle.local_zone.specs.declared.taken.Taken.{Taken}
use Rattle.local_zone.specs.declared.zone.Zone.{Zone}
use Rattle.local_zone.specs.Closest.{lies_in}
use Rattle.local_zone.specs.Count.{count_of, counts_there}
use Rattle.local_zone.specs.Gaps.{put_back, records_of, AreApart}
use Rattle.local_zone.specs.Saved.{IsRemoval}

-- If a removal led from the other side to this one, so many of the records that it took count for a name there.
abbrev pub CountsRemoved : Turn Zone → List Zone → List Taken → Labels → ℕ → Type 0
CountsRemoved turn zones removed name count =
    (records : List Record) → AreApart removed records →
    IsRemoval (record { zones = other_of turn zones; records = put_back removed records }) (record { zones = zones; records = records }) →
    count ≡ count_of (other_of turn zones) name (records_of removed)

-- This is the count of a name without the zone that covers the first name: 0 if that zone covers it too.
abbrev pub CountsOutside : List Zone → Labels → Labels → List Record → ℕ → Type 0
CountsOutside zones first name records count =
    (zone : Labels) → lies_in zones zone first ≡ true → count ≡ (if lies_in zones zone name then 0 else count_of zones name records)

-- the count of a name without so many records of an owner, if these count for it on the other side
abbrev pub count_without : Turn Zone → List Zone → List Record → Labels → ℕ → Labels → ℕ
count_without turn zones records owner many name =
    count_of zones name records - (if counts_there (other_of turn zones) name owner then many else 0)
