-- How a worker listens to what its poll reports, one after another.
use Rattle.std.proofs.Common.{◌++◌, List, [], ◌∷◌, map, refl, subst, sym}
use Rattle.std.proofs.lemmas.List.{map-append}
use Rattle.mio.specs.declared.event.event.Event.{Event}
use Rattle.flight.specs.declared.counts.Counts.{Counts}
use Rattle.flight.specs.Waiting.{FlightState}
use Rattle.front_workers.specs.Looked.{AllLookedAt, IsLookedAt}

all_looked_then : (first second : List Event) (a b c : FlightState) (old mid new : Counts) → AllLookedAt first a old b mid → AllLookedAt second b mid c new → AllLookedAt (first ++ second) a old c new
all_looked_then [] second a b c old mid new same rest =
    subst (λ (counts : Counts). AllLookedAt second a counts c new) same.1 (subst (λ (flight : FlightState). AllLookedAt second flight mid c new) same.0 rest)
all_looked_then (event ∷ first) second a b c old mid new looked rest = (looked.0, looked.1, looked.2, all_looked_then first second looked.0 b c looked.1 mid new looked.3 rest)

-- The next is looked at.
pub looked_on : (events : List Event) (event : Event) (a b c : FlightState) (old mid new : Counts) → AllLookedAt events a old b mid → IsLookedAt event b mid c new → AllLookedAt (events ++ event ∷ []) a old c new
looked_on events event a b c old mid new before looked = all_looked_then events (event ∷ []) a b c old mid new before (c, new, looked, (refl, refl))

-- The same of events that are lent.
pub seen_on : {X : Type 0} (view : X → Event) (events : List X) (event : X) (a b c : FlightState) (old mid new : Counts) → AllLookedAt (map view events) a old b mid → IsLookedAt (view event) b mid c new
    → AllLookedAt (map view (events ++ event ∷ [])) a old c new
seen_on view events event a b c old mid new before looked =
    subst (λ (list : List Event). AllLookedAt list a old c new) (sym (map-append view events (event ∷ []))) (looked_on (map view events) (view event) a b c old mid new before looked)
