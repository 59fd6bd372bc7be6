-- What the questions that wait keep, as exchanges begin and end.
use Rattle.std.proofs.Common.{◌≡◌, ◌≢◌, ◌∙◌, ◌≤◌, ◌+◌, ℕ, List, length, get_or, Option, Some, None, ap, refl, sym, arith, inl, inr}
use Rattle.std.specs.Prelude.{◌-◌}
use Rattle.std.proofs.lemmas.Bool.{cases_eq}
use Rattle.std.proofs.lemmas.List.{get_or_past}
use Rattle.flight.specs.Bounds.{AllGoOn, EachKeepsAtMost, IsWithin, KeepsMost, MayKeep, kept_by, kept_of}
use Rattle.flight.specs.Waiting.{FlightState, UnderWay, exchange_at}
use Rattle.flight.proofs.Summing.{one_summed, part_of_sum, zero_summed}

module _ (old new : List (Option UnderWay)) (key : ℕ) (exchange : UnderWay) (others : (other : ℕ) → other ≢ key → get_or new other None ≡ get_or old other None) where
  -- One that begins is added,
  pub one_kept : get_or old key None ≡ None → get_or new key None ≡ Some exchange → kept_by new ≡ kept_by old + exchange.kept
  one_kept vacant begins = one_summed kept_of refl old new key exchange vacant begins others

  -- and the bounds hold if it may be kept.
  pub within_with : (kept more : ℕ) → IsWithin old kept → get_or old key None ≡ None → get_or new key None ≡ Some exchange → MayKeep exchange.kept old → more ≡ exchange.kept → IsWithin new (kept + more)
  within_with kept more within vacant begins may is = record {
    sum = omega (arith, within.sum, is, one_kept vacant begins);
    all = omega (arith, within.sum, is, may.all);
    each = λ at. elim (cases_eq at key) [
      | inl same ↦ omega (arith, may.one, ap kept_of (ap (λ (k : ℕ). get_or new k None) same ∙ begins))
      | inr differs ↦ omega (arith, within.each at, ap kept_of (others at differs))
    ];
  }

  -- One that ends is taken off,
  pub one_less : get_or old key None ≡ Some exchange → get_or new key None ≡ None → kept_by old ≡ kept_by new + exchange.kept
  one_less was ended = one_summed kept_of refl new old key exchange ended was (λ other differs. sym (others other differs))

  -- and the bounds hold.
  pub within_without : (kept less : ℕ) → IsWithin old kept → get_or old key None ≡ Some exchange → get_or new key None ≡ None → less ≡ exchange.kept → IsWithin new (kept - less)
  within_without kept less within was ended is = record {
    sum = omega (arith, within.sum, is, one_less was ended);
    all = omega (arith, within.all);
    each = λ at. elim (cases_eq at key) [
      | inl same ↦ omega (arith, ap kept_of (ap (λ (k : ℕ). get_or new k None) same ∙ ended))
      | inr differs ↦ omega (arith, within.each at, ap kept_of (others at differs))
    ];
  }

  -- If it kept most, none that is left keeps more.
  pub most_without : KeepsMost old key → get_or old key None ≡ Some exchange → get_or new key None ≡ None → EachKeepsAtMost exchange.kept new
  most_without most was ended = λ at. elim (cases_eq at key) [
    | inl same ↦ omega (arith, ap kept_of (ap (λ (k : ℕ). get_or new k None) same ∙ ended))
    | inr differs ↦ omega (arith, most at, ap kept_of was, ap kept_of (others at differs))
  ]

-- One keeps no more than all.
pub no_more_than_all : (exchanges : List (Option UnderWay)) (key kept : ℕ) (exchange : UnderWay) → IsWithin exchanges kept → get_or exchanges key None ≡ Some exchange → exchange.kept ≤ kept
no_more_than_all exchanges key kept exchange within here = omega (arith, within.sum, part_of_sum kept_of refl exchanges key, ap kept_of here)

-- One that was taken out may be kept again.
pub may_keep_again : (old new : List (Option UnderWay)) (key kept : ℕ) (exchange : UnderWay) → IsWithin old kept → get_or old key None ≡ Some exchange → kept_by old ≡ kept_by new + exchange.kept → MayKeep exchange.kept new
may_keep_again old new key kept exchange within was less = record {
  one = omega (arith, within.each key, ap kept_of was);
  all = omega (arith, within.sum, within.all, less);
}

-- If the one that keeps most is none, none keeps anything.
pub none_kept : (exchanges : List (Option UnderWay)) (key : ℕ) → KeepsMost exchanges key → get_or exchanges key None ≡ None → kept_by exchanges ≡ 0
none_kept exchanges key most none = zero_summed kept_of refl exchanges (λ other. omega (arith, most other, ap kept_of none))

-- Behind the last key is none.
pub none_behind : (exchanges : List (Option UnderWay)) (end key : ℕ) → length exchanges ≤ end → end ≤ key → kept_of (get_or exchanges key None) ≤ 0
none_behind exchanges end key few behind = omega (arith, ap kept_of (get_or_past exchanges key None (omega arith)))

-- What goes on after one has ended went on before.
pub goes_on_without : (old between new : FlightState) (key : ℕ) → AllGoOn old between → exchange_at new key ≡ None → ((other : ℕ) → other ≢ key → exchange_at new other ≡ exchange_at between other) → AllGoOn old new
goes_on_without old between new key before ended others = λ at exchange here. elim (cases_eq at key) [
  | inl same ↦ absurd (let there : None ≡ Some exchange = sym ended ∙ ap (exchange_at new) (sym same) ∙ here in cc there)
  | inr differs ↦ before at exchange (sym (others at differs) ∙ here)
]
