-- The questions that wait, as exchanges begin and end, and the places that they hold.
use Rattle.std.proofs.Common.{◌≡◌, ◌≢◌, ◌∙◌, ◌⊎◌, ◌<◌, ◌≤◌, ◌+◌, ℕ, Bool, true, false, List, [], ◌∷◌, get_or, Option, Some, None, is_some, cond, count_by, refl, sym, ap, arith, inl, inr}
use Rattle.std.specs.Prelude.{◌-◌, ◌/◌, ◌↔◌, IsTrue}
use Rattle.std.specs.Int.{from_bool}
use Rattle.std.proofs.lemmas.Bool.{eqb-true}
use Rattle.std.proofs.lemmas.List.Sums.{sum_by-cons}
use Rattle.slab.specs.Slab.{entries_from}
use Rattle.dns_name.specs.Labels.{Labels}
use Rattle.dns_name.specs.Order.{name_eq_exact}
use Rattle.flight.specs.Origin.{Origin}
use Rattle.flight.specs.declared.table.Asker.{Asker}
use Rattle.flight.specs.Places.{HasPlace, IsAlone, KeepsPlaces, free_of, is_in_network, is_in_zone, network_most, zone_most}
use Rattle.flight.specs.Waiting.{FlightState, JoinsNone, UnderWay, WaitsFrom, count_for, exchange_at, is_for, outstanding, since_of, waiting_for}
use Rattle.flight.proofs.Summing.{one_summed}

abbrev one_if : Bool → ℕ
one_if b = cond b 1 0

-- what an exchange counts, of those whose question passes a test
abbrev counted : (Origin → Bool) → Option UnderWay → ℕ
counted test exchange = cond (is_for test exchange) 1 0

-- One that begins is counted.
pub one_counted : (test : Origin → Bool) (old new : List (Option UnderWay)) (key : ℕ) (exchange : UnderWay) → get_or old key None ≡ None → get_or new key None ≡ Some exchange
    → ((other : ℕ) → other ≢ key → get_or new other None ≡ get_or old other None) → count_for test new ≡ count_for test old + counted test (Some exchange)
one_counted test old new key exchange vacant begins others = one_summed (counted test) refl old new key exchange vacant begins others

-- whether the question of an entry of the table passes a test
abbrev pub entry_for : (Origin → Bool) → ℕ × UnderWay → Bool
entry_for test entry = is_for test (Some entry.1)

-- A walk of the entries counts them.
pub entries_counted : (test : Origin → Bool) (key : ℕ) (exchanges : List (Option UnderWay)) → count_by (entry_for test) (entries_from key exchanges) ≡ count_for test exchanges
entries_counted test key [] = refl
entries_counted test key (None ∷ rest) = omega (arith, entries_counted test (key + 1) rest, sum_by-cons (counted test) None rest)
entries_counted test key (Some exchange ∷ rest) =
    omega (
      arith,
      entries_counted test (key + 1) rest,
      sum_by-cons (counted test) (Some exchange) rest,
      sum_by-cons (λ entry. cond (entry_for test entry) 1 0) (key, exchange) (entries_from (key + 1) rest),
    )

byte_is : (b : Bool) → from_bool b ≡ one_if b
byte_is true = refl
byte_is false = refl

-- What is counted, with what the entries that are left count, stays the same from one entry to the next.
pub counted_on : (test : Origin → Bool) (so_far one key : ℕ) (exchange : UnderWay) (all rest : List (ℕ × UnderWay)) (passes : Bool) → all ≡ (key, exchange) ∷ rest → passes ≡ test exchange.origin → one ≡ from_bool passes
    → so_far + one + count_by (entry_for test) rest ≡ so_far + count_by (entry_for test) all
counted_on test so_far one key exchange all rest passes is tests adds =
    let added : one ≡ one_if (test exchange.origin) = adds ∙ byte_is passes ∙ ap one_if tests in
    let first : count_by (entry_for test) all ≡ one_if (test exchange.origin) + count_by (entry_for test) rest =
    ap (count_by (entry_for test)) is ∙ sum_by-cons (λ entry. cond (entry_for test entry) 1 0) (key, exchange) rest in
    omega (arith, added, first)

-- What is counted when none is left is what all hold.
pub all_counted : (test : Origin → Bool) (so_far total : ℕ) (rest : List (ℕ × UnderWay)) → rest ≡ [] → so_far + count_by (entry_for test) rest ≡ total → so_far ≡ total
all_counted test so_far total rest none is = omega (arith, ap (count_by (entry_for test)) none, is)

either : (b : Bool) → (b ≡ true) ⊎ (b ≡ false)
either true = inl refl
either false = inr refl

-- Those that pass a test are no more than all.
at_most_one : (b : Bool) → one_if b ≤ 1
at_most_one true = omega arith
at_most_one false = omega arith

pub no_more_for : (test : Origin → Bool) (exchanges : List (Option UnderWay)) → count_for test exchanges ≤ count_by is_some exchanges
no_more_for test [] = omega arith
no_more_for test (None ∷ rest) = omega (arith, no_more_for test rest, sum_by-cons (counted test) None rest, sum_by-cons (λ o. cond (is_some o) 1 0) None rest)
no_more_for test (Some exchange ∷ rest) =
    omega (
      arith,
      no_more_for test rest,
      at_most_one (test exchange.origin),
      sum_by-cons (counted test) (Some exchange) rest,
      sum_by-cons (λ o. cond (is_some o) 1 0) (Some exchange) rest,
    )

-- A test that is true decides what holds.
pub true_decides : {P : Type 0} → P → IsTrue true ↔ P
true_decides is = (λ yes. is, λ place. refl)

module _ (now : ℕ) (origin : Origin) (asker : Asker) (exchanges : List (Option UnderWay)) (limit free : ℕ) (some : count_by is_some exchanges < limit) (is : free ≡ limit - count_by is_some exchanges) where
  -- It has one where all that are taken are few enough beside those that are free,
  pub place_beside : count_by is_some exchanges / 16 < free → HasPlace now origin asker exchanges limit
  place_beside few = record {
    free = some;
    zone = omega (arith, no_more_for (is_in_zone origin.zone) exchanges);
    network = inl (omega (arith, no_more_for (is_in_network origin.network) exchanges));
  }

  -- and where its zone holds few enough, but its network all that are taken and too many, if that is alone.
  pub alone_decides : count_for (is_in_zone origin.zone) exchanges / 16 < free → free ≤ count_for (is_in_network origin.network) exchanges / 32
      → count_for (is_in_network origin.network) exchanges ≡ count_by is_some exchanges → (result : Bool) → IsTrue result ↔ IsAlone now origin.network asker → IsTrue result ↔ HasPlace now origin asker exchanges limit
  alone_decides few many all result decides = (
    λ yes. record { free = some; zone = omega arith; network = inr (decides.0 yes, all) },
    λ place. elim place.network [
      | inl less ↦ absurd (omega (arith, less))
      | inr alone ↦ decides.1 alone.0
    ],
  )

-- No zone and no network takes places that others need: where nothing changes,
pub kept_same : (old new : FlightState) → new.exchanges ≡ old.exchanges → KeepsPlaces old new
kept_same old new same = record {
  zones = λ zone. inl (omega (arith, ap (count_for (is_in_zone zone)) same));
  networks = λ network. inl (omega (arith, ap (count_for (is_in_network network)) same));
}

-- and where an exchange begins for which there was a place.
module _ (now : ℕ) (origin : Origin) (asker : Asker) (exchange : UnderWay) (old new : FlightState) (asked : exchange.origin ≡ origin) (place : HasPlace now origin asker old.exchanges new.limit)
    (counts : (test : Origin → Bool) → waiting_for test new ≡ waiting_for test old + counted test (Some exchange)) (more : outstanding new ≡ outstanding old + 1) where
  begun_in_zone : (zone : Labels) → (waiting_for (is_in_zone zone) new ≤ waiting_for (is_in_zone zone) old) ⊎ (waiting_for (is_in_zone zone) new ≤ zone_most (free_of new + 1))
  begun_in_zone zone = elim (either (is_in_zone zone exchange.origin)) [
    | inl its ↦
        let is : origin.zone ≡ zone = ap (λ (o : Origin). o.zone) (sym asked) ∙ name_eq_exact exchange.origin.zone zone its in
        inr (omega (arith, place.free, place.zone, more, ap (λ (z : Labels). waiting_for (is_in_zone z) old) is, counts (is_in_zone zone), ap one_if its))
    | inr others ↦ inl (omega (arith, counts (is_in_zone zone), ap one_if others))
  ]

  begun_in_network : (network : ℕ) → (waiting_for (is_in_network network) new ≤ waiting_for (is_in_network network) old)
      ⊎ ((waiting_for (is_in_network network) new ≤ network_most (free_of new + 1)) ⊎ (waiting_for (is_in_network network) new ≡ outstanding new))
  begun_in_network network = elim (either (is_in_network network exchange.origin)) [
    | inl its ↦
        let is : origin.network ≡ network = ap (λ (o : Origin). o.network) (sym asked) ∙ eqb-true exchange.origin.network network its in
        let same = ap (λ (n : ℕ). waiting_for (is_in_network n) old) is in
        inr (elim place.network [
          | inl few ↦ inl (omega (arith, place.free, few, more, same, counts (is_in_network network), ap one_if its))
          | inr all ↦ inr (omega (arith, all.1, more, same, counts (is_in_network network), ap one_if its))
        ])
    | inr others ↦ inl (omega (arith, counts (is_in_network network), ap one_if others))
  ]

  pub kept_begun : KeepsPlaces old new
  kept_begun = record { zones = begun_in_zone; networks = begun_in_network }

-- an exchange is under way where one began, and none where none did
some_at : (exchange : Option UnderWay) (since : ℕ) → since_of exchange ≡ Some since → (one : UnderWay) × (exchange ≡ Some one)
some_at None since is = absurd (cc is)
some_at (Some one) since is = (one, refl)

none_at : (exchange : Option UnderWay) → since_of exchange ≡ None → exchange ≡ None
none_at None is = refl
none_at (Some one) is = absurd (cc is)

-- A question of this origin waits, or nothing changes: it is counted once at most.
joined : (now : ℕ) (origin : Origin) (old new : FlightState) → WaitsFrom now (λ o. o ≡ origin) old new → (test : Origin → Bool) → waiting_for test new ≤ waiting_for test old + one_if (test origin)
joined now origin old new waits test = elim waits [
  | inl stays ↦
      let same : waiting_for test new ≡ waiting_for test old = ap (waiting_for test) stays.same in
      omega (arith, same)
  | inr begins ↦
      let one = some_at (exchange_at new begins.key) _ begins.begins in
      let more = one_counted test old.exchanges new.exchanges begins.key one.0 (none_at (exchange_at old begins.key) begins.vacant) one.1 begins.others in
      omega (arith, more, ap (λ (o : Origin). one_if (test o)) (begins.origin one.0 one.1))
]

-- None joins those that wait: where one was taken out, and waits again or does not,
pub joins_none_then : (now : ℕ) (job : UnderWay) (old between new : FlightState) → ((test : Origin → Bool) → waiting_for test old ≡ waiting_for test between + counted test (Some job))
    → WaitsFrom now (λ o. o ≡ job.origin) between new → JoinsNone old new
joins_none_then now job old between new taken waits = λ test. omega (arith, taken test, joined now job.origin between new waits test)

-- where the same are under way,
pub joins_none_same : (old new : FlightState) → new.exchanges ≡ old.exchanges → JoinsNone old new
joins_none_same old new same = λ test. omega (arith, ap (count_for test) same)

-- and where one thing happens after another.
pub joins_none_on : (old between new : FlightState) → JoinsNone old between → JoinsNone between new → JoinsNone old new
joins_none_on old between new first second = λ test. omega (arith, first test, second test)
