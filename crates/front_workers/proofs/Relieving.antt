-- The questions that still wait after some have ended.
use Rattle.std.proofs.Common.{◌≡◌, ◌∙◌, ◌<◌, ◌+◌, ℕ, ap, arith, inl, inr, refl, subst, sym}
use Rattle.std.specs.Prelude.{Option, Some, None}
use Rattle.flight.specs.Bounds.{AllGoOn}
use Rattle.flight.specs.Origin.{Origin}
use Rattle.flight.specs.Waiting.{FlightState, GoesOnOrBegins, IsPatient, IsTimely, KeepsOrigins, UnderWay, exchange_at, since_of}

some_at : (exchange : Option UnderWay) (since : ℕ) → since_of exchange ≡ Some since → (one : UnderWay) × (exchange ≡ Some one)
some_at None since is = absurd (cc is)
some_at (Some one) since is = (one, refl)

-- Each exchange that goes on has its time still,
pub patient_on : (patience now : ℕ) (old new : FlightState) → AllGoOn old new → IsPatient patience now old → IsPatient patience now new
patient_on patience now old new others patient = λ key since here.
    let one = some_at (exchange_at new key) since here in
    patient key since (ap since_of (others key one.0 one.1 ∙ sym one.1) ∙ here)

-- and each question its own.
pub timely_on : (most now : ℕ) (old new : FlightState) → AllGoOn old new → IsTimely most now old → IsTimely most now new
timely_on most now old new others timely = λ key exchange here. timely key exchange (others key exchange here)

-- Questions that begin anew have their time from now on,
pub patient_more : (now : ℕ) (old new : FlightState) → GoesOnOrBegins now old new → IsPatient 2000 now old → IsPatient 2000 now new
patient_more now old new begins patient = λ key since here. elim (begins.under_way key since here) [ inl was ↦ patient key since was | inr is ↦ omega (arith, is) ]

-- and grow no younger.
pub timely_more : (most now : ℕ) (old new : FlightState) → KeepsOrigins old new → IsTimely most now old → IsTimely most now new
timely_more most now old new origins timely = λ key exchange here.
    let was = origins key exchange here in
    subst (λ (origin : Origin). now < origin.began + most) was.3 (timely was.0 was.1 was.2)
