-- The queue of exchanges as they begin and end.
use Rattle.std.proofs.Common.{◌≡◌, ◌≢◌, ◌∙◌, ◌<◌, ◌≤◌, ◌+◌, ℕ, suc, Bool, true, false, List, [], ◌∷◌, ◌++◌, length, drop, get_or, Option, Some, None, is_some, count_by, cond, refl, sym, ap, arith, inl, inr}
use Rattle.std.specs.Prelude.{◌-◌, ◌==◌, ◌&&◌, ◌||◌, IsTrue}
use Rattle.std.proofs.lemmas.Bool.{and_from, and_parts, cases_eq, eq-eqb, eqb-true, or_cases}
use Rattle.std.proofs.lemmas.List.Elements.{All-push, All-tail, All-weaker}
use Rattle.std.proofs.lemmas.List.Folds.{Any-from_list_any}
use Rattle.std.proofs.lemmas.List.Sorted.{IsNonDecreasingBy-drop, IsNonDecreasingBy-push}
use Rattle.std.proofs.lemmas.List.Sums.{sum_by-cons}
use Rattle.flight.specs.declared.table.Wait.{Wait}
use Rattle.flight.specs.Queue.{FirstIs, IsQueue, is_queued}
use Rattle.flight.specs.Waiting.{UnderWay, since_in}

or_left : (a b : Bool) → a ≡ true → (a || b) ≡ true
or_left a b is = grind arith

or_right : (a b : Bool) → b ≡ true → (a || b) ≡ true
or_right a b is = grind arith

-- whether a wait is that of this key and this moment
abbrev is_wait : ℕ → ℕ → Wait → Bool
is_wait key since wait = (wait.key == key) && (wait.since == since)

-- The last one is in the queue.
queued_last : (waits : List Wait) (key since : ℕ) → IsTrue (is_queued (waits ++ record { key = key; since = since } ∷ []) key since)
queued_last [] key since = or_left ((key == key) && (since == since)) false (and_from (key == key) (since == since) (eq-eqb key key refl) (eq-eqb since since refl))
queued_last (wait ∷ waits) key since = or_right (is_wait key since wait) (is_queued (waits ++ record { key = key; since = since } ∷ []) key since) (queued_last waits key since)

-- So does each before it.
queued_before : (waits : List Wait) (last : Wait) (key since : ℕ) → IsTrue (is_queued waits key since) → IsTrue (is_queued (waits ++ last ∷ []) key since)
queued_before [] last key since is = absurd (cc is)
queued_before (wait ∷ waits) last key since is =
    elim (or_cases (is_wait key since wait) (is_queued waits key since) is) [
      | inl here ↦ or_left (is_wait key since wait) (is_queued (waits ++ last ∷ []) key since) here
      | inr later ↦ or_right (is_wait key since wait) (is_queued (waits ++ last ∷ []) key since) (queued_before waits last key since later)
    ]

-- What is not the first is after it.
queued_behind : (wait : Wait) (waits : List Wait) (key since : ℕ) → ¬ ((wait.key ≡ key) × (wait.since ≡ since)) → IsTrue (is_queued (wait ∷ waits) key since) → IsTrue (is_queued waits key since)
queued_behind wait waits key since other is =
    elim (or_cases (is_wait key since wait) (is_queued waits key since) is) [
      | inl here ↦ let both = and_parts (wait.key == key) (wait.since == since) here in absurd (other (eqb-true _ _ both.0, eqb-true _ _ both.1))
      | inr later ↦ later
    ]

-- A queue with nothing in it is empty, and one with something has a first.
pub empty_queue : (waits : List Wait) → length waits ≤ 0 → waits ≡ []
empty_queue [] none = refl
empty_queue (wait ∷ waits) none = absurd (omega arith)

pub first_of : (waits : List Wait) (wait : Wait) → 0 < length waits → wait ≡ get_or waits 0 wait → FirstIs waits wait
first_of [] wait some is = absurd (omega arith)
first_of (first ∷ rest) wait some is = record { rest = rest; is = ap (λ (at : Wait). at ∷ rest) (sym is) }

-- What is left without the first.
pub left_behind : (waits behind : List Wait) (wait : Wait) → FirstIs waits wait → behind ≡ drop 1 waits → waits ≡ wait ∷ behind
left_behind waits behind wait first is = first.is ∙ ap (λ (rest : List Wait). wait ∷ rest) (sym (is ∙ ap (drop 1) first.is))

-- None is under way where none is under any key.
pub none_under_way : (exchanges : List (Option UnderWay)) → ((key since : ℕ) → ¬ (since_in exchanges key ≡ Some since)) → count_by is_some exchanges ≡ 0
none_under_way [] none = refl
none_under_way (None ∷ rest) none = omega (arith, none_under_way rest (λ key since is. none (suc key) since is), sum_by-cons (λ o. cond (is_some o) 1 0) None rest)
none_under_way (Some exchange ∷ rest) none = absurd (none 0 exchange.since refl)

module _ (exchanges : List (Option UnderWay)) (waits : List Wait) (latest : ℕ) (queue : IsQueue exchanges waits latest) where
  -- Where none is in the queue, none is under way.
  pub none_queued : waits ≡ [] → (key since : ℕ) → ¬ (since_in exchanges key ≡ Some since)
  none_queued is key since here =
      let stands : IsTrue (is_queued [] key since) = rw is at (queue.queued key since here) in
      absurd (cc stands)

  pub idle_queue : waits ≡ [] → count_by is_some exchanges ≡ 0
  idle_queue is = none_under_way exchanges (none_queued is)

  -- The first began no later than any that is under way.
  pub first_began : (wait : Wait) (rest : List Wait) → waits ≡ wait ∷ rest → (key since : ℕ) → since_in exchanges key ≡ Some since → wait.since ≤ since
  first_began wait rest is key since here =
      let found = Any-from_list_any (is_wait key since) waits (queue.queued key since here) in
      let both = and_parts (found.1.key == key) (found.1.since == since) found.4 in
      let order = queue.ordered 0 found.0 found.1 (omega arith) found.2 in
      let first : (get_or waits 0 found.1).since ≡ wait.since = ap (λ (list : List Wait). (get_or list 0 found.1).since) is in
      let here : (get_or waits found.0 found.1).since ≡ found.1.since = ap (λ (at : Wait). at.since) found.3 in
      omega (arith, eqb-true found.1.since since both.1)

  -- If the first is not due, none is.
  pub none_due : (now patience : ℕ) (wait : Wait) (rest : List Wait) → waits ≡ wait ∷ rest → now < wait.since + patience → (key since : ℕ) → since_in exchanges key ≡ Some since → now < since + patience
  none_due now patience wait rest is left key since here = omega (arith, first_began wait rest is key since here)

  -- None is under way but those that were.
  pub queue_without : (exchanges' : List (Option UnderWay)) → ((key since : ℕ) → since_in exchanges' key ≡ Some since → since_in exchanges key ≡ Some since) → IsQueue exchanges' waits latest
  queue_without exchanges' kept = record { ordered = queue.ordered; past = queue.past; queued = λ key since here. queue.queued key since (kept key since here) }

  -- But for them one that is in the queue is under way.
  pub queue_with : (exchanges' : List (Option UnderWay)) (key since : ℕ) → since_in exchanges' key ≡ Some since → ((other : ℕ) → other ≢ key → since_in exchanges' other ≡ since_in exchanges other)
      → IsTrue (is_queued waits key since) → IsQueue exchanges' waits latest
  queue_with exchanges' key since here others stands =
      record {
        ordered = queue.ordered;
        past = queue.past;
        queued = λ at began is. elim (cases_eq at key) [
          | inl same ↦
              let began_is : began ≡ since = cc in
              rw (same, began_is) stands
          | inr differs ↦ queue.queued at began (sym (others at differs) ∙ is)
        ];
      }

  -- One begins.
  pub queue_grown : (exchanges' : List (Option UnderWay)) (key since : ℕ) → since_in exchanges' key ≡ Some since → ((other : ℕ) → other ≢ key → since_in exchanges' other ≡ since_in exchanges other)
      → latest ≤ since → IsQueue exchanges' (waits ++ record { key = key; since = since } ∷ []) since
  queue_grown exchanges' key since here others later =
      let last : Wait = record { key = key; since = since } in
      record {
        ordered = IsNonDecreasingBy-push (λ wait. wait.since) waits last queue.ordered (λ d some. omega (arith, queue.past (length waits - 1) d (omega arith)));
        past = All-push (λ wait. wait.since ≤ since) waits last (All-weaker (λ wait. wait.since ≤ latest) (λ wait. wait.since ≤ since) (λ wait is. omega arith) waits queue.past) (omega arith);
        queued = λ at began is. elim (cases_eq at key) [
          | inl same ↦
              let began_is : began ≡ since = cc in
              rw (same, began_is) (queued_last waits key since)
          | inr differs ↦ queued_before waits last at began (queue.queued at began (sym (others at differs) ∙ is))
        ];
      }

  module _ (behind : List Wait) (wait : Wait) (first : FirstIs waits wait) (is : behind ≡ drop 1 waits) where
    -- The first leaves the queue, and is not under way.
    passed : (exchanges' : List (Option UnderWay)) → ((key since : ℕ) → since_in exchanges' key ≡ Some since → (since_in exchanges key ≡ Some since) × ¬ ((wait.key ≡ key) × (wait.since ≡ since))) → IsQueue exchanges' behind latest
    passed exchanges' kept =
        let whole = left_behind waits behind wait first is in
        record {
          ordered = IsNonDecreasingBy-drop (λ at. at.since) 1 (wait ∷ behind) (rw whole at queue.ordered);
          past = All-tail (λ at. at.since ≤ latest) wait behind (rw whole at queue.past);
          queued = λ key since here.
              let was = kept key since here in
              queued_behind wait behind key since was.1 (rw whole at (queue.queued key since was.0));
        }

    -- None is under way under its key.
    pub passed_none : None ≡ since_in exchanges wait.key → IsQueue exchanges behind latest
    passed_none none = passed exchanges (λ key since here. (here, λ same. absurd (cc (none, here, ap (since_in exchanges) same.0))))

    -- One that began later is.
    pub passed_early : (later : ℕ) → Some later ≡ since_in exchanges wait.key → wait.since < later → IsQueue exchanges behind latest
    passed_early later under early = passed exchanges (λ key since here. (
      here,
      λ same.
          let is : later ≡ since = cc (under, here, ap (since_in exchanges) same.0) in
          omega (arith, same.1),
    ))

    -- One was, and is no more.
    pub passed_taken : (exchanges' : List (Option UnderWay)) → since_in exchanges' wait.key ≡ None → ((other : ℕ) → other ≢ wait.key → since_in exchanges' other ≡ since_in exchanges other) → IsQueue exchanges' behind latest
    passed_taken exchanges' none others = passed exchanges' (λ key since here. elim (cases_eq key wait.key) [
      | inl same ↦ absurd (cc (none, here, ap (since_in exchanges') same))
      | inr differs ↦ (sym (others key differs) ∙ here, λ is. differs (sym is.0))
    ])
