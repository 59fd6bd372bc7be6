-- The ages of the questions that wait, as exchanges begin and end.
use Rattle.std.proofs.Common.{◌≡◌, ◌≢◌, ◌∙◌, ◌<◌, ◌≤◌, ◌+◌, ℕ, List, get_or, Option, Some, None, ap, sym, arith, inl, inr}
use Rattle.std.proofs.lemmas.Bool.{cases_eq}
use Rattle.flight.specs.Table.{AreInTime}
use Rattle.flight.specs.Waiting.{UnderWay, since_in, since_of}

module _ (old new : List (Option UnderWay)) (key : ℕ) (in_time : AreInTime old) (others : (other : ℕ) → other ≢ key → get_or new other None ≡ get_or old other None) where
  -- One begins soon enough.
  pub in_time_with : (exchange : UnderWay) → get_or new key None ≡ Some exchange → exchange.since ≤ exchange.origin.began + 8000 → AreInTime new
  in_time_with exchange is soon = λ at one here. elim (cases_eq at key) [
    | inl same ↦
        let there : Some one ≡ Some exchange = sym here ∙ ap (λ (k : ℕ). get_or new k None) same ∙ is in
        let equal : one ≡ exchange = cc there in
        rw equal soon
    | inr differs ↦ in_time at one (sym (others at differs) ∙ here)
  ]

  -- One ends.
  pub in_time_without : get_or new key None ≡ None → AreInTime new
  in_time_without none = λ at one here. elim (cases_eq at key) [
    | inl same ↦ absurd (let there : None ≡ Some one = sym none ∙ ap (λ (k : ℕ). get_or new k None) (sym same) ∙ here in cc there)
    | inr differs ↦ in_time at one (sym (others at differs) ∙ here)
  ]

-- If no exchange is overdue, no question is too old.
pub timely_then : (now : ℕ) (exchanges : List (Option UnderWay)) → AreInTime exchanges → ((key since : ℕ) → since_in exchanges key ≡ Some since → now < since + 2000)
    → (key : ℕ) (exchange : UnderWay) → get_or exchanges key None ≡ Some exchange → now < exchange.origin.began + 10000
timely_then now exchanges in_time left key exchange here = omega (arith, in_time key exchange here, left key exchange.since (ap since_of here))
