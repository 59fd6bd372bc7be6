-- The exchanges that the poll reports, to each of which a worker listens.
use Rattle.std.specs.Prelude.{◌≡◌, ◌≢◌, ◌≤◌, ℕ, IfSome, List, [], ◌∷◌}
use Rattle.mio.specs.declared.event.event.Event.{Event}
use Rattle.mio.specs.Event.{event_token}
use Rattle.clock.specs.Moments.{ClockState, millis_at}
use Rattle.system.specs.Counts.{Rises}
use Rattle.flight.specs.declared.counts.Counts.{Counts}
use Rattle.flight.specs.declared.kept.TheConstants.{MOST_AT_REST}
use Rattle.flight.specs.declared.table.TheConstants.{PATIENCE}
use Rattle.flight.specs.Bounds.{Relieves, kept_all}
use Rattle.flight.specs.Waiting.{EarlyGoOn, FlightState, JoinsNone, OthersGoOn, since_at}
use Rattle.front.specs.declared.listener.TheConstants.{SERVICE}

-- The poll reported this. If it is an exchange, it is listened to once. Each other exchange goes on.
pub record IsLookedAt (event : Event) (flight : FlightState) (old : Counts) (flight' : FlightState) (new : Counts) : Type 0 where
  pub listens : event_token event ≢ SERVICE → IfSome (since_at flight (event_token event).0) (λ _. Rises old.listened new.listened)
  pub others : OthersGoOn (event_token event).0 flight flight'
  pub unexpired : new.expired ≡ old.expired

-- Each is, one after another.
abbrev pub AllLookedAt : List Event → FlightState → Counts → FlightState → Counts → Type 0
AllLookedAt [] flight old flight' new = (flight' ≡ flight) × (new ≡ old)
AllLookedAt (event ∷ rest) flight old flight' new = (between : FlightState) × (mid : Counts) × IsLookedAt event flight old between mid × AllLookedAt rest between mid flight' new

-- The exchanges are ended whose time is up at this moment, and the others go on. Then some questions begin anew, and none joins them.
abbrev pub EndOverdue : ℕ → FlightState → FlightState → Type 0
EndOverdue now flight flight' = (left : FlightState) × EarlyGoOn PATIENCE now flight left × JoinsNone left flight'

-- Each exchange that the poll reported is listened to. Then those are ended whose time is up at this moment, and the others go on. Then some questions begin anew, and none joins them. At last the questions end that keep most, one after another, as long as all keep too much.
pub record LooksAtAll (events : List Event) (now : ℕ) (flight : FlightState) (old : Counts) (flight' : FlightState) (new : Counts) : Type 0 where
  pub between : FlightState
  pub mid : Counts
  pub looked : AllLookedAt events flight old between mid
  pub left : FlightState
  pub early : EarlyGoOn PATIENCE now between left
  pub anew : FlightState
  pub joins_none : JoinsNone left anew
  pub relieves : Relieves MOST_AT_REST anew flight'
  pub relieved : kept_all flight' ≤ MOST_AT_REST
  pub listened : mid.listened ≤ new.listened

-- So it is at the last moment of this clock.
abbrev pub LooksAtAllBy : List Event → ClockState → FlightState → Counts → FlightState → Counts → Type 0
LooksAtAllBy events clock flight old flight' new = LooksAtAll events (millis_at clock.last) flight old flight' new
