-- Tickets are given out once, and are in one list at most: what can be undone is in their order and is not struck, what can be redone is struck.
use Rattle.std.proofs.Common.{◌≡◌, ℕ, ◌+◌, ◌-◌, ◌<◌, ◌≤◌, false, Option, Some, None, List, zero, suc, [], ◌∷◌, ◌++◌, length, drop, refl, ap, subst, inl, inr, arith}
use Rattle.std.specs.Prelude.{fold, nat_lt, ◌==◌}
use Rattle.std.specs.List.{AllByRecursion}
use Rattle.std.specs.Option.{option_map_or}
use Rattle.std.proofs.lemmas.Bool.{cases_Bool, eq-eqb, eqb-true, ltb-true, lt-ltb}
use Rattle.std.proofs.lemmas.Bool.Decides.{nat_tests}
use Rattle.dns_name.specs.ListLaws.{all_push, all_weaker}
use Rattle.history.specs.declared.event.Event.{Event}
use Rattle.history.specs.declared.event.Event.TheVariants.{Admit, Look, Sweep, Forget, Do, Undo, Redo, UndoOf, RedoOf}
use Rattle.history.specs.declared.event.Command.{Command}
use Rattle.history.specs.declared.event.Reason.{Reason}
use Rattle.history.specs.Marks.{Marks, AreAscending, last_of, without, in_place, strike, restore}
use Rattle.history.specs.Tickets.{InOne, occurs}
use Rattle.history.specs.TicketLaws.{tally_same, tally_other, without_absent, last_occurs, next_in_one, redo_of_there}
use Rattle.history.specs.History.{Past, past_of, nothing, followed_by, marks_after, ticket_moved, ticket_unless, reason_of}

-- ---- the order of tickets

-- what holds of all tickets of a list holds of one that is in it
pub of_one : (P : ℕ → Type 0) (x : ℕ) (xs : List ℕ) → AllByRecursion P xs → 1 ≤ occurs x xs → P x
of_one P x [] all some = absurd (omega arith)
of_one P x (t ∷ xs) all some =
    elim (cases_Bool (t == x)) [
      | inl same ↦ subst P (eqb-true t x same) all.0
      | inr other ↦ let zero = tally_other t x other in of_one P x xs all.1 (omega arith)
    ]

all_without : (P : ℕ → Type 0) (x : ℕ) (xs : List ℕ) → AllByRecursion P xs → AllByRecursion P (without x xs)
all_without P x [] all = tt
all_without P x (t ∷ xs) all =
    elim (cases_Bool (t == x)) [ inl same ↦ rw same (all_without P x xs all.1) | inr other ↦ rw other (all.0, all_without P x xs all.1) ]

all_in_place : (P : ℕ → Type 0) (x : ℕ) (xs : List ℕ) → AllByRecursion P xs → P x → AllByRecursion P (in_place x xs)
all_in_place P x [] all one = (one, tt)
all_in_place P x (t ∷ xs) all one =
    elim (cases_Bool (nat_lt x t)) [ inl before ↦ rw before (one, all) | inr not_yet ↦ rw not_yet (all.0, all_in_place P x xs all.1 one) ]

pub above_both : (x t : ℕ) (xs : List ℕ) → x < t → AllByRecursion (λ s. t < s) xs → AllByRecursion (λ s. x < s) xs
above_both x t xs lt = all_weaker (λ s. t < s) (λ s. x < s) (λ s above. omega arith) xs

ascending_without : (x : ℕ) (xs : List ℕ) → AreAscending xs → AreAscending (without x xs)
ascending_without x [] h = tt
ascending_without x (t ∷ xs) h =
    elim (cases_Bool (t == x)) [
      | inl same ↦ rw same (ascending_without x xs h.1)
      | inr other ↦ rw other (all_without (λ s. t < s) x xs h.0, ascending_without x xs h.1)
    ]

not_before : (x t : ℕ) → nat_lt x t ≡ false → t ≤ x
not_before x t other = grind (arith, nat_tests)

not_same : (x t : ℕ) → (t == x) ≡ false → t ≤ x → t < x
not_same x t other le = grind (arith, nat_tests)

ascending_in_place : (x : ℕ) (xs : List ℕ) → AreAscending xs → occurs x xs ≡ 0 → AreAscending (in_place x xs)
ascending_in_place x [] h none = (tt, tt)
ascending_in_place x (t ∷ xs) h none =
    elim (cases_Bool (nat_lt x t)) [
      | inl before ↦ let lt : x < t = ltb-true x t before in rw before ((lt, above_both x t xs lt h.0), h)
      | inr not_yet ↦
          elim (cases_Bool (t == x)) [
            | inl same ↦ let here = tally_same t x same in absurd (omega arith)
            | inr other ↦
                let lt : t < x = not_same x t other (not_before x t not_yet) in
                let rest : occurs x xs ≡ 0 = omega arith in
                rw not_yet (all_in_place (λ s. t < s) x xs h.0 lt, ascending_in_place x xs h.1 rest)
          ]
    ]

ascending_drop : (k : ℕ) (xs : List ℕ) → AreAscending xs → AreAscending (drop k xs)
ascending_drop zero xs h = h
ascending_drop (suc k) [] h = tt
ascending_drop (suc k) (x ∷ xs) h = ascending_drop k xs h.1

pub ascending_push : (xs : List ℕ) (x : ℕ) → AreAscending xs → AllByRecursion (λ t. t < x) xs → AreAscending (xs ++ x ∷ [])
ascending_push [] x h below = (tt, tt)
ascending_push (t ∷ xs) x h below = (all_push (λ s. t < s) xs x h.0 below.0, ascending_push xs x h.1 below.1)

-- what is above a ticket is not it
pub absent_below : (x : ℕ) (xs : List ℕ) → AllByRecursion (λ t. x < t) xs → occurs x xs ≡ 0
absent_below x [] above = refl
absent_below x (t ∷ xs) above =
    elim (cases_Bool (t == x)) [
      | inl same ↦ let is : t ≡ x = eqb-true t x same in let lt = above.0 in absurd (omega arith)
      | inr other ↦ rw other (omega (arith, absent_below x xs above.1))
    ]

first_in_place : (x : ℕ) (xs : List ℕ) → AllByRecursion (λ t. x < t) xs → in_place x xs ≡ x ∷ xs
first_in_place x [] above = refl
first_in_place x (t ∷ xs) above = rw (lt-ltb x t above.0) refl

-- a ticket that is left out and put back is where it was
pub put_back_in_place : (x : ℕ) (xs : List ℕ) → AreAscending xs → 1 ≤ occurs x xs → in_place x (without x xs) ≡ xs
put_back_in_place x [] h some = absurd (omega arith)
put_back_in_place x (t ∷ xs) h some =
    elim (cases_Bool (t == x)) [
      | inl same ↦
          let is : t ≡ x = eqb-true t x same in
          let above : AllByRecursion (λ s. x < s) xs = subst (λ (n : ℕ). AllByRecursion (λ s. n < s) xs) is h.0 in
          rw (same, without_absent x xs (absent_below x xs above), is) (first_in_place x xs above)
      | inr other ↦
          let zero = tally_other t x other in
          let rest : 1 ≤ occurs x xs = omega arith in
          let above : t < x = of_one (λ s. t < s) x xs h.0 rest in
          let not_yet : nat_lt x t ≡ false = grind (arith, nat_tests) in
          rw (other, not_yet) (ap (λ (l : List ℕ). t ∷ l) (put_back_in_place x xs h.1 rest))
    ]

-- ---- the marks of a history

pub record AreOrderly (j : Marks) : Type 0 where
  pub in_one : (t : ℕ) → InOne j t
  pub ascending : AreAscending j.done

-- a list of tickets of which none is above a number
all_up_to : (n : ℕ) (xs : List ℕ) → ((t : ℕ) → n < t → occurs t xs ≡ 0) → AllByRecursion (λ t. t < n + 1) xs
all_up_to n [] none = tt
all_up_to n (x ∷ xs) none =
    let here = tally_same x x (eq-eqb x x refl) in
    let up_to : x < n + 1 =
    elim (cases_Bool (nat_lt n x)) [
      | inl above ↦ let no = none x (ltb-true n x above) in absurd (omega arith)
      | inr below ↦ let le = not_before n x below in omega arith
    ]
    in
    (up_to, all_up_to n xs (λ t above. let no = none t above in omega arith))

do_ascends : (bound : ℕ) (j : Marks) (m : ℕ) (c : Command) (o : Option Reason) → AreOrderly j → AreAscending (marks_after bound j (Do m c) (ticket_unless j o)).done
do_ascends bound j m c None h =
    let n = j.tickets + 1 in
    let below : AllByRecursion (λ t. t < n) j.done = all_up_to j.tickets j.done (λ t above. let none = (h.in_one t).given above in omega arith) in
    ascending_drop (length (j.done ++ n ∷ []) - bound) (j.done ++ n ∷ []) (ascending_push j.done n h.ascending below)
do_ascends bound j m c (Some reason) h = h.ascending

undo_ascends : (j : Marks) (o : Option ℕ) → AreOrderly j → AreAscending (option_map_or (strike j) o j).done
undo_ascends j None h = h.ascending
undo_ascends j (Some x) h = ascending_without x j.done h.ascending

redo_ascends : (j : Marks) (o : Option ℕ) → ((x : ℕ) → o ≡ Some x → 1 ≤ occurs x j.undone) → AreOrderly j → AreAscending (option_map_or (restore j) o j).done
redo_ascends j None some h = h.ascending
redo_ascends j (Some x) some h =
    let here = some x refl in
    let one = h.in_one x in
    let once = one.once in
    let few = one.undone in
    ascending_in_place x j.done h.ascending (omega arith)

next_ascends : (bound : ℕ) (past : Past) (e : Event) → AreOrderly past.marks → AreAscending (followed_by bound past e).marks.done
next_ascends bound past (Admit m f) h = h.ascending
next_ascends bound past (Look m a) h = h.ascending
next_ascends bound past (Sweep m) h = h.ascending
next_ascends bound past (Forget m n) h = h.ascending
next_ascends bound past (Do m c) h = do_ascends bound past.marks m c (reason_of past c) h
next_ascends bound past (Undo m) h = undo_ascends past.marks (last_of past.marks.done) h
next_ascends bound past (Redo m) h = redo_ascends past.marks (last_of past.marks.undone) (λ x last. last_occurs past.marks.undone x last) h
next_ascends bound past (UndoOf m t) h = undo_ascends past.marks (ticket_moved past (UndoOf m t)) h
next_ascends bound past (RedoOf m t) h = redo_ascends past.marks (ticket_moved past (RedoOf m t)) (λ x is. redo_of_there past m t x is) h

orderly_after : (bound : ℕ) (past : Past) (events : List Event) → AreOrderly past.marks → AreOrderly (fold (followed_by bound) past events).marks
orderly_after bound past [] h = h
orderly_after bound past (e ∷ events) h =
    orderly_after bound (followed_by bound past e) events (record { in_one = next_in_one bound past e h.in_one; ascending = next_ascends bound past e h })

pub orderly : (bound : ℕ) (history : List Event) → AreOrderly (past_of bound history).marks
orderly bound history =
    orderly_after bound nothing history (record { in_one = λ t. record { once = omega arith; undone = omega arith; given = λ later. refl }; ascending = tt })

pub done_ascends : (bound : ℕ) (history : List Event) → AreAscending (past_of bound history).marks.done
done_ascends bound history = (orderly bound history).ascending
