-- One zone more, or less, in a list of zones.
use Rattle.std.specs.Prelude.{◌≡◌, ℕ, false, ◌||◌, List, Option, None, Some, slice_get, if◌then◌else◌}
use Rattle.dns_name.specs.Labels.{Labels}
use Rattle.dns_name.specs.Order.{name_eq}
use Rattle.dns_text.specs.declared.record.Record.{Record}
use Rattle.local_zone.specs.declared.zone.Zone.{Zone}
use Rattle.named_list.specs.declared.turn.Turn.{Turn}
use Rattle.named_list.specs.declared.turn.Turn.TheVariants.{Without}
use Rattle.named_list.specs.Turn.{name_in}
use Rattle.local_zone.specs.Change.{has_zone}
use Rattle.local_zone.specs.Count.{count_of}
use Rattle.local_zone.specs.CountsBelow.{is_below_from, octets_over, AreZoned}

-- the zone that a step takes out, if it takes one out
abbrev pub zone_out : Turn Zone → List Zone → Option Zone
zone_out (Without place) zones = slice_get zones place
zone_out _ zones = None

-- The second list has one more zone, of a new name.
pub record HasOneMore (zones : List Zone) (name : Labels) (more : List Zone) : Type 0 where
  pub new : has_zone zones name ≡ false
  pub names : (other : Labels) → has_zone more other ≡ (name_eq name other || has_zone zones other)

-- The counts are those of the zones, and then those of the zones with one more, of this name.
abbrev pub CountsIn : List Zone → Labels → List Record → List (List ℕ × ℕ) → List (List ℕ × ℕ) → Type 0
CountsIn zones name records old new =
    AreZoned zones records old → (more : List Zone) → HasOneMore zones name more → AreZoned more records new

-- The counts are those of the zones with one more, of this name, and then those of the zones.
abbrev pub CountsOut : List Zone → Labels → List Record → List (List ℕ × ℕ) → List (List ℕ × ℕ) → Type 0
CountsOut zones name records old new =
    (more : List Zone) → HasOneMore zones name more → AreZoned more records old → AreZoned zones records new

-- If a step puts a zone in, the counts are those of the zones, and then those of the zones with that one.
abbrev pub CountsStepIn : Turn Zone → List Zone → List Record → List (List ℕ × ℕ) → List (List ℕ × ℕ) → Type 0
CountsStepIn turn zones records old new = (name : Labels) → name_in (λ z. z.name) turn ≡ Some name → CountsIn zones name records old new

-- If a step puts a zone in, the counts are those of the zones with that one, and then those of the zones.
abbrev pub CountsStepOut : Turn Zone → List Zone → List Record → List (List ℕ × ℕ) → List (List ℕ × ℕ) → Type 0
CountsStepOut turn zones records old new = (name : Labels) → name_in (λ z. z.name) turn ≡ Some name → CountsOut zones name records old new

-- So many records of a zone that is on one side alone count for a name there alone. On the other side `above` covers the zone's name.
abbrev pub CountsMoved : Labels → Option Zone → Labels → List Record → List (List ℕ × ℕ) → ℕ → Type 0
CountsMoved zone above name records counts moved =
    (zones : List Zone) → AreZoned zones records counts → moved ≡ (if is_below_from (octets_over above) zone name then count_of zones zone records else 0)
