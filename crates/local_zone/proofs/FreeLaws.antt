-- Ways back that need no memory.
use Rattle.std.proofs.Common.{◌≡◌, ◌≤◌, Bool, true, false, ◌||◌, List, [], ◌∷◌, length, Option, Some, None, refl, sym, inl, inr, arith, length-append}
use Rattle.std.specs.Prelude.{is_some}
use Rattle.std.specs.List.{list_any}
use Rattle.std.proofs.lemmas.Bool.{cases_Bool, false≢true}
use Rattle.dns_name.specs.Labels.{Labels}
use Rattle.dns_name.specs.Order.{name_eq}
use Rattle.dns_text.specs.declared.record.Record.{Record}
use Rattle.named_list.specs.ClosestLaws.{closest_is, none_passes}
use Rattle.local_zone.specs.Added.{brings_back, records_need}
use Rattle.local_zone.specs.declared.added.RecordTurn.{RecordTurn}
use Rattle.local_zone.specs.declared.added.RecordTurn.TheVariants.{Nothing, Added, Adds, Removed, Removes}
use Rattle.local_zone.specs.declared.zone.Zone.{Zone}
use Rattle.local_zone.specs.declared.zone_type.ZoneType.TheVariants.{Transparent}
use Rattle.local_zone.specs.Change.{has_zone, zones_for}
use Rattle.local_zone.specs.Closest.{closest, is_named, lies_in}

-- records that a removal took need memory to come back
pub needs_back : (turn : RecordTurn) → brings_back turn ≡ true → records_need turn ≡ true
needs_back Nothing e = absurd (false≢true e)
needs_back (Added added) e = absurd (false≢true e)
needs_back (Adds new) e = refl
needs_back (Removed removed) e = refl
needs_back (Removes gaps) e = absurd (false≢true e)

-- the second of two tests of which none holds, and the first
pub second_fails : (a b : Bool) → (a || b) ≡ false → b ≡ false
second_fails true b e = absurd (false≢true (sym e))
second_fails false b e = e

pub first_fails : (a b : Bool) → (a || b) ≡ false → a ≡ false
first_fails true b e = e
first_fails false b e = refl

-- a zone that is made for an owner makes the list longer
pub longer_for : (owner : Labels) (zones : List Zone) → length zones ≤ length (zones_for owner zones)
longer_for owner zones =
    elim (cases_Bool (is_some (closest zones owner))) [
      | inl some ↦ rw some (omega arith)
      | inr none ↦ rw none (omega (arith, length-append zones ((record { name = owner; kind = Transparent }) ∷ [])))
    ]

lies_not : (zones : List Zone) (name owner : Labels) → has_zone zones name ≡ false → lies_in zones name owner ≡ false
lies_not zones name owner none = by (closest zones owner) refl
  where
    by : (found : Option Zone) → closest zones owner ≡ found → is_named name found ≡ false
    by None e = refl
    by (Some zone) e = none_passes (λ (z : Zone). name_eq z.name name) zones zone none (closest_is (λ (z : Zone). z.name) zones owner zone e).there

-- no record lies in a zone that is not there
pub none_lies : (zones : List Zone) (name : Labels) (records : List Record) → has_zone zones name ≡ false → list_any (λ r. lies_in zones name r.owner) records ≡ false
none_lies zones name [] none = refl
none_lies zones name (r ∷ records) none = rw (lies_not zones name r.owner none) (none_lies zones name records none)
