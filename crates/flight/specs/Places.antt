-- The places of a worker's exchanges, and who may take them.
use Rattle.std.specs.Prelude.{◌≡◌, ◌⊎◌, ◌<◌, ◌≤◌, ◌==◌, ℕ, ◌+◌, ◌-◌, ◌*◌, Bool, Option, is_some, count_by, List, if◌then◌else◌}
use Rattle.dns_name.specs.Labels.{Labels}
use Rattle.dns_name.specs.Order.{name_eq}
use Rattle.flight.specs.declared.table.Asker.{Asker}
use Rattle.flight.specs.declared.table.TheConstants.{ALONE_AFTER, LAST_BEGINNING, NETWORK_TIMES_FREE, ZONE_TIMES_FREE}
use Rattle.flight.specs.Bounds.{MayKeep}
use Rattle.flight.specs.Origin.{Origin}
use Rattle.flight.specs.Waiting.{FlightState, UnderWay, count_for, outstanding, waiting_for}

-- whether the name of a question is in this zone
abbrev pub is_in_zone : Labels → Origin → Bool
is_in_zone zone origin = name_eq origin.zone zone

-- whether the client of a question is of this network
abbrev pub is_in_network : ℕ → Origin → Bool
is_in_network network origin = origin.network == network

-- the most places that a zone may hold, if so many are free
abbrev pub zone_most : ℕ → ℕ
zone_most free = ZONE_TIMES_FREE * free

-- the most places that a network may hold which is not alone, if so many are free
abbrev pub network_most : ℕ → ℕ
network_most free = NETWORK_TIMES_FREE * free

-- who asked for a place last, once a question of this network asks at this moment
abbrev pub asker_after : ℕ → ℕ → Asker → Asker
asker_after now network asker = if asker.network == network then asker else record { network = network; since = now }

-- For long enough no other network has asked for a place.
pub record IsAlone (now network : ℕ) (asker : Asker) : Type 0 where
  pub same : asker.network ≡ network
  pub long : asker.since + ALONE_AFTER ≤ now

-- A place is free. Questions in the zone hold fewer places than a zone may. Those of the network hold fewer than a network may, or they hold all that are taken and are alone.
pub record HasPlace (now : ℕ) (origin : Origin) (asker : Asker) (exchanges : List (Option UnderWay)) (limit : ℕ) : Type 0 where
  pub free : count_by is_some exchanges < limit
  pub zone : count_for (is_in_zone origin.zone) exchanges < zone_most (limit - count_by is_some exchanges)
  pub network : (count_for (is_in_network origin.network) exchanges < network_most (limit - count_by is_some exchanges)) ⊎ (IsAlone now origin.network asker × (count_for (is_in_network origin.network) exchanges ≡ count_by is_some exchanges))

-- A question that keeps so much may begin an exchange at this moment: it has the time, there is a place for it, and it does not keep too much.
pub record MayBegin (now : ℕ) (origin : Origin) (asker : Asker) (kept : ℕ) (exchanges : List (Option UnderWay)) (limit : ℕ) : Type 0 where
  pub in_time : now ≤ origin.began + LAST_BEGINNING
  pub place : HasPlace now origin asker exchanges limit
  pub small : MayKeep kept exchanges

-- how many places are free
abbrev pub free_of : FlightState → ℕ
free_of state = state.limit - outstanding state

-- No zone and no network takes places that others need: it holds no more than before, or few beside those that were free. A network may hold all that are taken.
pub record KeepsPlaces (old new : FlightState) : Type 0 where
  pub zones : (zone : Labels) → (waiting_for (is_in_zone zone) new ≤ waiting_for (is_in_zone zone) old) ⊎ (waiting_for (is_in_zone zone) new ≤ zone_most (free_of new + 1))
  pub networks : (network : ℕ) → (waiting_for (is_in_network network) new ≤ waiting_for (is_in_network network) old)
      ⊎ ((waiting_for (is_in_network network) new ≤ network_most (free_of new + 1)) ⊎ (waiting_for (is_in_network network) new ≡ outstanding new))
