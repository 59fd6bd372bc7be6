-- The other side of a change, read through the table and the way there.
use Rattle.std.specs.Prelude.{ℕ, List}
use Rattle.named_list.specs.declared.turn.Turn.{Turn}
use Rattle.named_list.specs.Turn.{other_of, HasPlace}
use Rattle.dns_text.specs.declared.record.Record.{Record}
use Rattle.local_zone.specs.declared.saved.SavedTables.{SavedTables}
use Rattle.local_zone.specs.declared.zone.Zone.{Zone}
use Rattle.local_zone.specs.CountsBelow.{AreZoned}
use Rattle.local_zone.specs.Gaps.{at_gaps, rest_of, AreApart, AreWithin}
use Rattle.local_zone.specs.Saved.{before_of, IsRemoval, TakesBack}
use Rattle.local_zone.specs.Tables.{Tables, AreTables}

-- the tables on the other side
abbrev pub other_tables : SavedTables → List Zone → List Record → Tables
other_tables saved zones records = before_of saved (record { zones = zones; records = records })

-- These are the parts of a table, with its counts, and the saved value leads from it to the other side.
pub record IsSide (saved : SavedTables) (zones : List Zone) (records : List Record) (zoned : List (List ℕ × ℕ)) : Type 0 where
  pub back : TakesBack saved (record { zones = zones; records = records }) (other_tables saved zones records)
  pub sound : AreTables (record { zones = zones; records = records })
  pub counts : AreZoned zones records zoned

-- A removal leads to the other side, where the records at these gaps are not.
abbrev pub RemovesAt : Turn Zone → List Zone → List ℕ → List Record → Type 0
RemovesAt turn zones gaps records =
    IsRemoval (record { zones = zones; records = records }) (record { zones = other_of turn zones; records = rest_of gaps records })

-- A removal leads to the other side, and takes the records at these gaps.
pub record AreTaken (turn : Turn Zone) (zones : List Zone) (gaps : List ℕ) (records : List Record) : Type 0 where
  pub fits : HasPlace (λ z. z.name) turn zones
  pub within : AreWithin gaps records
  pub apart : AreApart (at_gaps gaps records) (rest_of gaps records)
  pub removal : RemovesAt turn zones gaps records
