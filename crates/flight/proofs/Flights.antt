-- What is in flight, as exchanges begin and end.
use Rattle.std.proofs.Common.{◌≡◌, ◌≢◌, ◌∙◌, ◌⊎◌, ◌<◌, ◌≤◌, ◌+◌, ℕ, max, map, List, [], ◌∷◌, ◌++◌, Option, Some, None, ap, refl, subst, sym, arith, inl, inr}
use Rattle.std.proofs.lemmas.Bool.{cases_eq}
use Rattle.std.proofs.lemmas.List.{map-append}
use Rattle.std.specs.Prelude.{slice_index_or}
use Rattle.slab.specs.Slab.{Slab, get, slab_len, Updates}
use Rattle.flight.specs.declared.table.BeginAttempt.{BeginAttempt}
use Rattle.flight.specs.declared.table.Wait.{Wait}
use Rattle.flight.proofs.Counting.{time_over, fewer_over_then}
use Rattle.flight.specs.Origin.{Origin}
use Rattle.flight.specs.Waiting.{Attempts, FlightState, IsAttempt, Stays, UnderWay, Begins, EarlyGoOn, GoesOnOrBegins, HasQuestion, KeepsOrigins, WaitsFrom, attempted, exchange_at, outstanding, since_at, since_in, since_of}

-- Nothing changes but the latest attempt: where all is the same,
stays_put : (now : ℕ) (of : Origin → Type 0) (state : FlightState) → Stays now of state state
stays_put now of state = record { same = refl; attempts = inl refl }

pub stays_same : (now : ℕ) (of : Origin → Type 0) (old new : FlightState) → new ≡ old → Stays now of old new
stays_same now of old new same = subst (λ (state : FlightState). Stays now of old state) (sym same) (stays_put now of old)

-- and where one thing happens after another.
pub stays_then : (now : ℕ) (of : Origin → Type 0) (old between new : FlightState) → Stays now of old between → Stays now of between new → Stays now of old new
stays_then now of old between new first second = record {
  same = second.same ∙ ap (attempted new.tried) first.same;
  attempts = elim second.attempts [
    | inl same ↦ elim first.attempts [
      | inl before ↦ inl (same ∙ before)
      | inr one ↦ inr (subst (λ (attempt : BeginAttempt). IsAttempt now of attempt) (sym same) one)
    ]
    | inr one ↦ inr one
  ];
}

-- A question makes an attempt.
pub attempted_now : (now : ℕ) (origin : Origin) (attempt : BeginAttempt) → attempt ≡ record { at = now; began = origin.began } → IsAttempt now (λ o. o ≡ origin) attempt
attempted_now now origin attempt is = record { at = ap (λ (a : BeginAttempt). a.at) is; origin = origin; is = refl; began = ap (λ (a : BeginAttempt). a.began) is }

pub stays_tried : (now : ℕ) (origin : Origin) (old new : FlightState) (attempt : BeginAttempt) → new ≡ attempted attempt old → attempt ≡ record { at = now; began = origin.began } → Stays now (λ o. o ≡ origin) old new
stays_tried now origin old new attempt same is =
    let tried : new.tried ≡ attempt = ap (λ (state : FlightState). state.tried) same in
    record {
      same = same ∙ ap (λ (a : BeginAttempt). attempted a old) (sym tried);
      attempts = inr (attempted_now now origin new.tried (tried ∙ is));
    }

-- An attempt is of a question of which less is said.
attempt_as : (now : ℕ) (of of' : Origin → Type 0) (attempt : BeginAttempt) → IsAttempt now of attempt → ((origin : Origin) → of origin → of' origin) → IsAttempt now of' attempt
attempt_as now of of' attempt one implies = record { at = one.at; origin = one.origin; is = implies one.origin one.is; began = one.began }

pub stays_as : (now : ℕ) (of of' : Origin → Type 0) (old new : FlightState) → Stays now of old new → ((origin : Origin) → of origin → of' origin) → Stays now of' old new
stays_as now of of' old new stays implies = record {
  same = stays.same;
  attempts = elim stays.attempts [ inl same ↦ inl same | inr one ↦ inr (attempt_as now of of' new.tried one implies) ];
}

-- An exchange begins under the key of a question that is kept, and is watched under it.
pub begins : (now : ℕ) (of : Origin → Type 0) (old new : FlightState) (before after : Slab UnderWay) (exchange : UnderWay) (since : ℕ)
    → before.slots ≡ old.exchanges → new.exchanges ≡ after.slots → get before before.vacant_key ≡ None → Updates before after before.vacant_key (Some exchange) → slab_len after ≡ slab_len before + 1
    → exchange.since ≡ since → exchange.key ≡ before.vacant_key → of exchange.origin → since ≡ max now old.latest → new.begun ≡ old.begun ++ since ∷ [] → new.latest ≡ since → new.limit ≡ old.limit → IsAttempt now of new.tried → Begins now of old new
begins now of old new before after exchange since same is vacant updates more began watched origin now_is begun latest limit tried =
    record {
      key = before.vacant_key;
      vacant = sym (ap (λ (list : List (Option UnderWay)). since_in list before.vacant_key) same) ∙ ap since_of vacant;
      begins = ap (λ (list : List (Option UnderWay)). since_in list before.vacant_key) is ∙ ap since_of updates.changed ∙ ap Some (began ∙ now_is);
      watched = λ one here.
          let there : Some one ≡ Some exchange = sym here ∙ ap (λ (list : List (Option UnderWay)). slice_index_or list before.vacant_key None) is ∙ updates.changed in
          cc (there, watched);
      origin = λ one here.
          let there : Some one ≡ Some exchange = sym here ∙ ap (λ (list : List (Option UnderWay)). slice_index_or list before.vacant_key None) is ∙ updates.changed in
          let equal : one ≡ exchange = cc there in
          subst (λ (e : UnderWay). of e.origin) (sym equal) origin;
      others = λ other differs.
          ap (λ (list : List (Option UnderWay)). slice_index_or list other None) is ∙ updates.others other differs ∙ ap (λ (list : List (Option UnderWay)). slice_index_or list other None) same;
      one_more = rw (is, ← same) more;
      begun = rw (← now_is) begun;
      latest = latest ∙ now_is;
      limit = limit;
      tried = tried;
    }

-- An exchange that is put back under its key is under way as it was.
pub put_back_same : (old between new : Slab UnderWay) (key : ℕ) (exchange : UnderWay) → Some exchange ≡ get old key → Updates old between key None → between.vacant_key ≡ key
    → Updates between new between.vacant_key (Some exchange) → (at : ℕ) → get new at ≡ get old at
put_back_same old between new key exchange here before next after at =
    elim (cases_eq at key) [
      | inl same ↦ ap (get new) (same ∙ sym next) ∙ after.changed ∙ here ∙ ap (get old) (sym same)
      | inr differs ↦ after.others at (λ is. differs (is ∙ next)) ∙ before.others at differs
    ]

-- So it is after those that began before.
pub begun_behind : (before after : List Wait) (last : Wait) (begun : List ℕ) → after ≡ before ++ last ∷ [] → map (λ wait. wait.since) before ≡ begun → map (λ wait. wait.since) after ≡ begun ++ last.since ∷ []
begun_behind before after last begun is were = ap (map (λ (wait : Wait). wait.since)) is ∙ map-append (λ (wait : Wait). wait.since) before (last ∷ []) ∙ ap (λ (list : List ℕ). list ++ last.since ∷ []) were

-- What is under way goes on, whatever begins.
pub goes_on_under : (now : ℕ) (of : Origin → Type 0) (old new : FlightState) → WaitsFrom now of old new → (key since : ℕ) → since_at old key ≡ Some since → since_at new key ≡ Some since
goes_on_under now of old new waits key since here =
    elim waits [
      | inl stays ↦ ap (λ (state : FlightState). since_at state key) stays.same ∙ here
      | inr begins ↦ ap since_of (begins.others key (λ (same : key ≡ begins.key). absurd (cc (begins.vacant, ap (since_at old) same)))) ∙ here
    ]

-- A question waits of which less is said.
pub waits_as : (now : ℕ) (of of' : Origin → Type 0) (old new : FlightState) → WaitsFrom now of old new → ((origin : Origin) → of origin → of' origin) → WaitsFrom now of' old new
waits_as now of of' old new waits implies = elim waits [
  | inl stays ↦ inl (stays_as now of of' old new stays implies)
  | inr begins ↦ inr (record {
    key = begins.key;
    vacant = begins.vacant;
    begins = begins.begins;
    watched = begins.watched;
    origin = λ exchange here. implies exchange.origin (begins.origin exchange here);
    others = begins.others;
    one_more = begins.one_more;
    begun = begins.begun;
    latest = begins.latest;
    limit = begins.limit;
    tried = attempt_as now of of' new.tried begins.tried implies;
  })
]

-- One was taken out, and one begins or not: there are no more than before.
pub no_more_then : (now taken : ℕ) (of : Origin → Type 0) (old new : FlightState) → outstanding old + 1 ≡ taken → WaitsFrom now of old new → outstanding new ≤ taken
no_more_then now taken of old new one waits =
    elim waits [
      | inl stays ↦
          let many : outstanding new ≡ outstanding old = ap outstanding stays.same in
          omega (arith, many)
      | inr begins ↦ omega (arith, begins.one_more)
    ]

-- What is not due goes on where what was taken out was due.
pub early_then : (patience now key due : ℕ) (of : Origin → Type 0) (first old between new : FlightState) → EarlyGoOn patience now first old
    → since_at old key ≡ Some due → due + patience ≤ now → ((other : ℕ) → other ≢ key → since_at between other ≡ since_at old other) → WaitsFrom now of between new → EarlyGoOn patience now first new
early_then patience now key due of first old between new early was is_due others waits = λ at since here left.
    let still = early at since here left in
    let differs : at ≢ key = λ same.
    let is : since ≡ due = cc (still, was, ap (since_at old) same) in
    omega arith
    in
    goes_on_under now of between new waits at since (others at differs ∙ still)

-- What is under way goes on or begins now: where all goes on as it was,
pub as_it_was : (now : ℕ) (old new : FlightState) → ((key : ℕ) → exchange_at new key ≡ exchange_at old key) → new.latest ≡ old.latest → GoesOnOrBegins now old new
as_it_was now old new same latest =
    record {
      under_way = λ key since here. inl (ap since_of (sym (same key)) ∙ here);
      watched = λ was key exchange here. was key exchange (sym (same key) ∙ here);
      latest = inl latest;
    }

-- where one was taken out,
pub taken_out : (now key : ℕ) (old new : FlightState) → exchange_at new key ≡ None → ((other : ℕ) → other ≢ key → exchange_at new other ≡ exchange_at old other) → new.latest ≡ old.latest → GoesOnOrBegins now old new
taken_out now key old new none others latest =
    record {
      under_way = λ at since here. elim (cases_eq at key) [
        | inl same ↦ absurd (cc (none, here, same))
        | inr differs ↦ inl (ap since_of (sym (others at differs)) ∙ here)
      ];
      watched = λ was at exchange here. elim (cases_eq at key) [
        | inl same ↦ absurd (cc (none, here, ap (exchange_at new) same))
        | inr differs ↦ was at exchange (sym (others at differs) ∙ here)
      ];
      latest = inl latest;
    }

-- where one begins or not,
begun_now : (now : ℕ) (of : Origin → Type 0) (old new : FlightState) → Begins now of old new → GoesOnOrBegins now old new
begun_now now of old new begins =
    record {
      under_way = λ at since here. elim (cases_eq at begins.key) [
        | inl same ↦ inr (cc (begins.begins, here, ap (since_at new) same))
        | inr differs ↦ inl (ap since_of (sym (begins.others at differs)) ∙ here)
      ];
      watched = λ was at exchange here. elim (cases_eq at begins.key) [
        | inl same ↦ begins.watched exchange (ap (exchange_at new) (sym same) ∙ here) ∙ sym same
        | inr differs ↦ was at exchange (sym (begins.others at differs) ∙ here)
      ];
      latest = inr begins.latest;
    }

pub begun_or_not : (now : ℕ) (of : Origin → Type 0) (old new : FlightState) → WaitsFrom now of old new → GoesOnOrBegins now old new
begun_or_not now of old new waits =
    elim waits [
      | inl stays ↦ as_it_was now old new (λ key. ap (λ (state : FlightState). exchange_at state key) stays.same) (ap (λ (state : FlightState). state.latest) stays.same)
      | inr begins ↦ begun_now now of old new begins
    ]

-- and where both happens at one moment.
as_late : (now first latest : ℕ) → (latest ≡ first) ⊎ (latest ≡ max now first) → max now latest ≡ max now first
as_late now first latest is = elim is [ inl same ↦ ap (max now) same | inr later ↦ omega (arith, later) ]

pub on_or_begun_then : (now : ℕ) (old between new : FlightState) → GoesOnOrBegins now old between → GoesOnOrBegins now between new → GoesOnOrBegins now old new
on_or_begun_then now old between new first second =
    let late = as_late now old.latest between.latest first.latest in
    record {
      under_way = λ key since here. elim (second.under_way key since here) [
        | inl was ↦ first.under_way key since was
        | inr begun ↦ inr (begun ∙ late)
      ];
      watched = λ was. second.watched (first.watched was);
      latest = elim second.latest [
        | inl same ↦ elim first.latest [ inl before ↦ inl (same ∙ before) | inr begun ↦ inr (same ∙ begun) ]
        | inr begun ↦ inr (begun ∙ late)
      ];
    }

-- Exchanges are less over their time, together, without the first of the queue, also where one begins.
pub less_over : (now since : ℕ) (of : Origin → Type 0) (old between new : FlightState) → old.begun ≡ since ∷ between.begun → since + 2000 ≤ now → WaitsFrom now of between new → time_over now new.begun < time_over now old.begun
less_over now since of old between new first due waits =
    fewer_over_then now since (max now between.latest) old.begun between.begun new.begun first due (omega arith) (elim waits [
      | inl stays ↦ inl (ap (λ (state : FlightState). state.begun) stays.same)
      | inr begins ↦ inr begins.begun
    ])

-- Each question that waits did so before: where the same exchanges are under way,
pub origins_same : (old new : FlightState) → ((key : ℕ) → exchange_at new key ≡ exchange_at old key) → KeepsOrigins old new
origins_same old new same = λ key exchange here. (key, exchange, sym (same key) ∙ here, refl)

-- where one was taken out, and waits again or does not,
module _ (now key : ℕ) (job : UnderWay) (old between new : FlightState) (was : exchange_at old key ≡ Some job) (none : exchange_at between key ≡ None)
    (others : (other : ℕ) → other ≢ key → exchange_at between other ≡ exchange_at old other) where
  waited_before : (at : ℕ) (exchange : UnderWay) → exchange_at between at ≡ Some exchange → HasQuestion old exchange.origin
  waited_before at exchange here = elim (cases_eq at key) [
    | inl same ↦ absurd (let there : None ≡ Some exchange = sym none ∙ ap (exchange_at between) (sym same) ∙ here in cc there)
    | inr differs ↦ (at, exchange, sym (others at differs) ∙ here, refl)
  ]

  pub origins_then : WaitsFrom now (λ o. o ≡ job.origin) between new → KeepsOrigins old new
  origins_then waits = λ at exchange here. elim waits [
    | inl stays ↦ waited_before at exchange (sym (ap (λ (state : FlightState). exchange_at state at) stays.same) ∙ here)
    | inr begins ↦ elim (cases_eq at begins.key) [
      | inl same ↦ (key, job, was, sym (begins.origin exchange (ap (exchange_at new) (sym same) ∙ here)))
      | inr differs ↦ waited_before at exchange (sym (begins.others at differs) ∙ here)
    ]
  ]

-- and where one thing happens after another.
pub origins_on : (old between new : FlightState) → KeepsOrigins old between → KeepsOrigins between new → KeepsOrigins old new
origins_on old between new first second = λ key exchange here.
    let was = second key exchange here in
    let before = first was.0 was.1 was.2 in
    (before.0, before.1, before.2, before.3 ∙ was.3)

-- An attempt that follows is one of the question that was taken out.
pub attempts_then : (now key : ℕ) (job : UnderWay) (old between new : FlightState) → exchange_at old key ≡ Some job → between.tried ≡ old.tried → WaitsFrom now (λ o. o ≡ job.origin) between new
    → Attempts now (HasQuestion old) old new
attempts_then now key job old between new was before waits =
    let waited : (origin : Origin) → origin ≡ job.origin → HasQuestion old origin = λ origin is. (key, job, was, sym is) in
    elim waits [
      | inl stays ↦ elim stays.attempts [
        | inl same ↦ inl (same ∙ before)
        | inr one ↦ inr (attempt_as now (λ o. o ≡ job.origin) (HasQuestion old) new.tried one waited)
      ]
      | inr begins ↦ inr (attempt_as now (λ o. o ≡ job.origin) (HasQuestion old) new.tried begins.tried waited)
    ]

-- Attempts follow one another.
pub attempts_on : (now : ℕ) (old between new : FlightState) → KeepsOrigins old between → Attempts now (HasQuestion old) old between → Attempts now (HasQuestion between) between new → Attempts now (HasQuestion old) old new
attempts_on now old between new origins first second = elim second [
  | inl same ↦ elim first [
    | inl before ↦ inl (same ∙ before)
    | inr one ↦ inr (subst (λ (attempt : BeginAttempt). IsAttempt now (HasQuestion old) attempt) (sym same) one)
  ]
  | inr one ↦
      let waited : (origin : Origin) → HasQuestion between origin → HasQuestion old origin = λ origin has.
      let was = origins has.0 has.1 has.2 in
      (was.0, was.1, was.2, was.3 ∙ has.3)
      in
      inr (attempt_as now (HasQuestion between) (HasQuestion old) new.tried one waited)
]
