-- The commands that the journal holds are in the order of tickets, those that are done are those that can be undone, and the others those that can be redone.
use Rattle.std.proofs.Common.{◌≡◌, ℕ, ◌+◌, ◌<◌, ◌≤◌, Bool, true, false, cond, Option, Some, None, List, [], ◌∷◌, ◌++◌, refl, sym, ◌∙◌, ap, subst, inl, inr, arith}
use Rattle.std.specs.Prelude.{fold, filter, filter_map, not, ◌==◌, ◌||◌, ◌&&◌}
use Rattle.std.specs.List.{AllByRecursion, cons_option}
use Rattle.std.specs.Option.{option_map, option_map_or}
use Rattle.std.proofs.lemmas.Bool.{cases_Bool, eq-eqb, eqb-true, false≢true}
use Rattle.std.proofs.lemmas.Bool.Decides.{nat_tests}
use Rattle.std.proofs.lemmas.List.{append-nil}
use Rattle.std.proofs.lemmas.List.Elements.{filter_map-append}
use Rattle.std.proofs.lemmas.Map.Views.{any-filter_same}
use Rattle.dns_name.specs.ListLaws.{all_push, all_weaker}
use Rattle.history.specs.declared.event.Event.{Event}
use Rattle.history.specs.declared.event.Event.TheVariants.{Admit, Look, Sweep, Forget, Do, Undo, Redo, UndoOf, RedoOf}
use Rattle.history.specs.declared.event.Command.{Command}
use Rattle.history.specs.declared.event.Entry.{Entry}
use Rattle.history.specs.declared.event.Journalled.{Journalled}
use Rattle.history.specs.declared.event.Reason.{Reason}
use Rattle.history.specs.Marks.{Marks, AreAscending, last_of, without, strike, restore, after_command}
use Rattle.history.specs.Tickets.{tally, occurs}
use Rattle.history.specs.History.{Past, past_of, nothing, followed_by, marks_after, ticket_moved, ticket_unless, reason_of}
use Rattle.history.specs.Journal.{is_among, held_with, journalled_of, commands_of, tickets_of}
use Rattle.history.specs.TicketLaws.{tally_same, tally_other, occurs_push, occurs_newest, occurs_in_place, last_occurs, not_struck, among_occurs, occurs_among, undo_of_there, redo_of_there}
use Rattle.history.proofs.OrderLaw.{of_one, above_both, absent_below, ascending_push, done_ascends, orderly}

-- ---- what is picked of an ascending list

-- a ticket that comes before all of a list is not looked for there
past_first : (y : ℕ) (ys xs : List ℕ) → AllByRecursion (λ t. y < t) xs → filter (is_among (y ∷ ys)) xs ≡ filter (is_among ys) xs
past_first y ys [] above = refl
past_first y ys (t ∷ xs) above =
    let lt : y < t = above.0 in
    let other : (y == t) ≡ false = grind (arith, nat_tests) in
    rw other (ap (λ (l : List ℕ). cond (is_among ys t) (t ∷ l) l) (past_first y ys xs above.1))

-- an ascending list, picked from another that has all of it
picks : (xs ys : List ℕ) → AreAscending xs → AreAscending ys → ((t : ℕ) → 1 ≤ occurs t ys → 1 ≤ occurs t xs) → filter (is_among ys) xs ≡ ys
picks [] [] up down has = refl
picks [] (y ∷ ys) up down has = let here = tally_same y y (eq-eqb y y refl) in let none = has y (omega arith) in absurd (omega arith)
picks (x ∷ xs) [] up down has = picks xs [] up.1 tt (λ t some. absurd (omega arith))
picks (x ∷ xs) (y ∷ ys) up down has =
    elim (cases_Bool (y == x)) [
      | inl same ↦
          let is : y ≡ x = eqb-true y x same in
          let above : AllByRecursion (λ t. y < t) xs = subst (λ (n : ℕ). AllByRecursion (λ t. n < t) xs) (sym is) up.0 in
          let rest : (t : ℕ) → 1 ≤ occurs t ys → 1 ≤ occurs t xs = λ t some.
          let lt : y < t = of_one (λ s. y < s) t ys down.0 some in
          let zero = tally_other x t (grind (arith, nat_tests)) in
          let there = has t (omega arith) in omega arith
          in
          rw same (ap (λ (l : List ℕ). x ∷ l) (past_first y ys xs above ∙ picks xs ys up.1 down.1 rest) ∙ ap (λ (n : ℕ). n ∷ ys) (sym is))
      | inr other ↦
          let here = tally_same y y (eq-eqb y y refl) in
          let zero = tally_other x y (grind (arith, nat_tests)) in
          let there = has y (omega arith) in
          let lt : x < y = of_one (λ s. x < s) y xs up.0 (omega arith) in
          let all : AllByRecursion (λ s. x < s) (y ∷ ys) = (lt, above_both x y ys lt down.0) in
          let out : is_among (y ∷ ys) x ≡ false = not_struck x (y ∷ ys) (absent_below x (y ∷ ys) all) in
          let rest : (t : ℕ) → 1 ≤ occurs t (y ∷ ys) → 1 ≤ occurs t xs = λ t some.
          let later : x < t = of_one (λ s. x < s) t (y ∷ ys) all some in
          let apart = tally_other x t (grind (arith, nat_tests)) in
          let found = has t some in omega arith
          in
          rw out (picks xs (y ∷ ys) up.1 down rest)
    ]

all_filter : (P : ℕ → Type 0) (p : ℕ → Bool) (xs : List ℕ) → AllByRecursion P xs → AllByRecursion P (filter p xs)
all_filter P p [] all = tt
all_filter P p (x ∷ xs) all = elim (cases_Bool (p x)) [ inl yes' ↦ rw yes' (all.0, all_filter P p xs all.1) | inr no' ↦ rw no' (all_filter P p xs all.1) ]

ascending_filter : (p : ℕ → Bool) (xs : List ℕ) → AreAscending xs → AreAscending (filter p xs)
ascending_filter p [] up = tt
ascending_filter p (x ∷ xs) up =
    elim (cases_Bool (p x)) [ inl yes' ↦ rw yes' (all_filter (λ t. x < t) p xs up.0, ascending_filter p xs up.1) | inr no' ↦ rw no' (ascending_filter p xs up.1) ]

-- ---- the tickets of a log

abbrev tickets_in : List Entry → List ℕ
tickets_in log = filter_map (λ entry. entry.ticket) log

-- a command alone takes a ticket
abbrev IsTaken : Event → Option ℕ → Type 0
IsTaken event None = Unit {0}
IsTaken (Do m c) (Some t) = Unit {0}
IsTaken event (Some t) = ⊥

abbrev AreTaken : List Entry → Type 0
AreTaken log = AllByRecursion (λ entry. IsTaken entry.event entry.ticket) log

-- What the journal holds of a log, as a list of tickets that each command may prolong: those that pass a test, if each command adds its ticket where the ticket passes.
module _ (marks : Marks) (image : List Journalled → List ℕ) (among : ℕ → Bool) (alone : (t : ℕ) (c : Command) (js : List Journalled) → image (cons_option (held_with marks t c) js) ≡ cond (among t) (t ∷ image js) (image js)) where
  one_picked : (e : Event) (ticket : Option ℕ) (js : List Journalled) (ts : List ℕ) → IsTaken e ticket → image js ≡ filter among ts → image (cons_option (journalled_of marks e ticket) js) ≡ filter among (cons_option ticket ts)
  one_picked (Do m c) (Some t) js ts h is = alone t c js ∙ ap (λ (l : List ℕ). cond (among t) (t ∷ l) l) is
  one_picked (Do m c) None js ts h is = is
  one_picked (Admit m f) None js ts h is = is
  one_picked (Admit m f) (Some t) js ts h is = absurd h
  one_picked (Look m a) None js ts h is = is
  one_picked (Look m a) (Some t) js ts h is = absurd h
  one_picked (Sweep m) None js ts h is = is
  one_picked (Sweep m) (Some t) js ts h is = absurd h
  one_picked (Forget m n) None js ts h is = is
  one_picked (Forget m n) (Some t) js ts h is = absurd h
  one_picked (Undo m) None js ts h is = is
  one_picked (Undo m) (Some t) js ts h is = absurd h
  one_picked (Redo m) None js ts h is = is
  one_picked (Redo m) (Some t) js ts h is = absurd h
  one_picked (UndoOf m named) None js ts h is = is
  one_picked (UndoOf m named) (Some t) js ts h is = absurd h
  one_picked (RedoOf m named) None js ts h is = is
  one_picked (RedoOf m named) (Some t) js ts h is = absurd h

  picked : image [] ≡ [] → (log : List Entry) → AreTaken log → image (filter_map (λ entry. journalled_of marks entry.event entry.ticket) log) ≡ filter among (tickets_in log)
  picked none [] h = none
  picked none (e ∷ log) h = one_picked e.event e.ticket (filter_map (λ entry. journalled_of marks entry.event entry.ticket) log) (tickets_in log) h.0 (picked none log h.1)

done_alone : (done undone : Bool) (t : ℕ) (c : Command) (js : List Journalled)
    → tickets_of (filter (λ j. j.done) (cons_option (option_map (λ d. record { ticket = t; done = d; command = c }) (cond done (Some true) (cond undone (Some false) None))) js))
    ≡ cond done (t ∷ tickets_of (filter (λ j. j.done) js)) (tickets_of (filter (λ j. j.done) js))
done_alone true undone t c js = refl
done_alone false true t c js = refl
done_alone false false t c js = refl

done_picked : (marks : Marks) (log : List Entry) → AreTaken log
    → tickets_of (filter (λ j. j.done) (filter_map (λ entry. journalled_of marks entry.event entry.ticket) log)) ≡ filter (is_among marks.done) (tickets_in log)
done_picked marks log h =
    picked marks (λ (js : List Journalled). tickets_of (filter (λ j. j.done) js)) (λ t. is_among marks.done t) (λ t c js. done_alone (is_among marks.done t) (is_among marks.undone t) t c js) refl log h

held_alone : (done undone : Bool) (t : ℕ) (c : Command) (js : List Journalled)
    → tickets_of (cons_option (option_map (λ d. record { ticket = t; done = d; command = c }) (cond done (Some true) (cond undone (Some false) None))) js)
    ≡ cond (done || undone) (t ∷ tickets_of js) (tickets_of js)
held_alone true undone t c js = refl
held_alone false true t c js = refl
held_alone false false t c js = refl

held_picked : (marks : Marks) (log : List Entry) → AreTaken log
    → tickets_of (filter_map (λ entry. journalled_of marks entry.event entry.ticket) log) ≡ filter (λ t. is_among marks.done t || is_among marks.undone t) (tickets_in log)
held_picked marks log h =
    picked marks (λ (js : List Journalled). tickets_of js) (λ t. is_among marks.done t || is_among marks.undone t) (λ t c js. held_alone (is_among marks.done t) (is_among marks.undone t) t c js) refl log h

-- ---- the log of a history

record IsOrderly (marks : Marks) (log : List Entry) : Type 0 where
  pub ascending : AreAscending (tickets_in log)
  pub few : AllByRecursion (λ t. t < marks.tickets + 1) (tickets_in log)
  pub taken : AreTaken log
  pub held : (t : ℕ) → 1 ≤ occurs t marks.done + occurs t marks.undone → 1 ≤ occurs t (tickets_in log)

-- an event that takes no ticket, and after which no other can be undone or redone
no_more : (j k : Marks) (log : List Entry) (e : Entry) → e.ticket ≡ None → k.tickets ≡ j.tickets
    → ((t : ℕ) → 1 ≤ occurs t k.done + occurs t k.undone → 1 ≤ occurs t j.done + occurs t j.undone) → IsOrderly j log → IsOrderly k (log ++ e ∷ [])
no_more j k log e none same fewer h =
    let tickets : tickets_in (log ++ e ∷ []) ≡ tickets_in log =
    filter_map-append (λ entry. entry.ticket) log (e ∷ []) ∙ ap (λ (o : Option ℕ). tickets_in log ++ cons_option o []) none ∙ append-nil (tickets_in log) in
    let taken : IsTaken e.event e.ticket = subst (λ (o : Option ℕ). IsTaken e.event o) (sym none) tt in
    record {
      ascending = subst AreAscending (sym tickets) h.ascending;
      few = subst (λ (ts : List ℕ). AllByRecursion (λ t. t < k.tickets + 1) ts) (sym tickets) (subst (λ (n : ℕ). AllByRecursion (λ t. t < n + 1) (tickets_in log)) (sym same) h.few);
      taken = all_push (λ entry. IsTaken entry.event entry.ticket) log e h.taken taken;
      held = λ t some. subst (λ (ts : List ℕ). 1 ≤ occurs t ts) (sym tickets) (h.held t (fewer t some));
    }

one_more_ticket : (bound : ℕ) (j : Marks) (log : List Entry) (moment m : ℕ) (c : Command) → IsOrderly j log
    → IsOrderly (after_command bound j) (log ++ (record { event = Do m c; moment = moment; ticket = Some (j.tickets + 1) }) ∷ [])
one_more_ticket bound j log moment m c h =
    let n = j.tickets + 1 in
    let e : Entry = record { event = Do m c; moment = moment; ticket = Some n } in
    let tickets : tickets_in (log ++ e ∷ []) ≡ tickets_in log ++ n ∷ [] = filter_map-append (λ entry. entry.ticket) log (e ∷ []) in
    record {
      ascending = subst AreAscending (sym tickets) (ascending_push (tickets_in log) n h.ascending h.few);
      few =
          subst (λ (ts : List ℕ). AllByRecursion (λ t. t < n + 1) ts) (sym tickets)
          (all_push (λ t. t < n + 1) (tickets_in log) n (all_weaker (λ t. t < n) (λ t. t < n + 1) (λ t below. omega arith) (tickets_in log) h.few) (omega arith));
      taken = all_push (λ entry. IsTaken entry.event entry.ticket) log e h.taken tt;
      held = λ t some.
          let few = occurs_newest t bound (j.done ++ n ∷ []) in
          let done = occurs_push t j.done n in
          let there : 1 ≤ occurs t (tickets_in log) + tally n t = elim (cases_Bool (n == t)) [
            | inl same ↦ let one = tally_same n t same in omega arith
            | inr other ↦ let zero = tally_other n t other in let found = h.held t (omega arith) in omega arith
          ] in
          subst (λ (ts : List ℕ). 1 ≤ occurs t ts) (sym tickets) (let all = occurs_push t (tickets_in log) n in omega arith);
    }

occurs_without : (t x : ℕ) (xs : List ℕ) → occurs t (without x xs) ≤ occurs t xs
occurs_without t x [] = omega arith
occurs_without t x (s ∷ xs) =
    elim (cases_Bool (s == x)) [ inl same ↦ rw same (omega (arith, occurs_without t x xs)) | inr other ↦ rw other (omega (arith, occurs_without t x xs)) ]

struck_held : (j : Marks) (x t : ℕ) → 1 ≤ occurs x j.done → 1 ≤ occurs t (strike j x).done + occurs t (strike j x).undone → 1 ≤ occurs t j.done + occurs t j.undone
struck_held j x t here some =
    let done = occurs_without t x j.done in
    let undone = occurs_push t j.undone x in
    elim (cases_Bool (x == t)) [
      | inl same ↦ let there : 1 ≤ occurs t j.done = subst (λ (n : ℕ). 1 ≤ occurs n j.done) (eqb-true x t same) here in omega arith
      | inr other ↦ let zero = tally_other x t other in omega arith
    ]

restored_held : (j : Marks) (x t : ℕ) → 1 ≤ occurs x j.undone → 1 ≤ occurs t (restore j x).done + occurs t (restore j x).undone → 1 ≤ occurs t j.done + occurs t j.undone
restored_held j x t here some =
    let done = occurs_in_place t x j.done in
    let undone = occurs_without t x j.undone in
    elim (cases_Bool (x == t)) [
      | inl same ↦ let there : 1 ≤ occurs t j.undone = subst (λ (n : ℕ). 1 ≤ occurs n j.undone) (eqb-true x t same) here in omega arith
      | inr other ↦ let zero = tally_other x t other in omega arith
    ]

after_do : (bound : ℕ) (j : Marks) (log : List Entry) (moment m : ℕ) (c : Command) (o : Option Reason) → IsOrderly j log
    → IsOrderly (marks_after bound j (Do m c) (ticket_unless j o)) (log ++ (record { event = Do m c; moment = moment; ticket = ticket_unless j o }) ∷ [])
after_do bound j log moment m c None h = one_more_ticket bound j log moment m c h
after_do bound j log moment m c (Some reason) h = no_more j j log _ refl refl (λ t some. some) h

after_undo_or_not : (j : Marks) (log : List Entry) (e : Entry) (o : Option ℕ) → ((x : ℕ) → o ≡ Some x → 1 ≤ occurs x j.done) → e.ticket ≡ None → IsOrderly j log → IsOrderly (option_map_or (strike j) o j) (log ++ e ∷ [])
after_undo_or_not j log e None some none h = no_more j j log e none refl (λ t there. there) h
after_undo_or_not j log e (Some x) some none h = no_more j (strike j x) log e none refl (λ t there. struck_held j x t (some x refl) there) h

after_redo_or_not : (j : Marks) (log : List Entry) (e : Entry) (o : Option ℕ) → ((x : ℕ) → o ≡ Some x → 1 ≤ occurs x j.undone) → e.ticket ≡ None → IsOrderly j log → IsOrderly (option_map_or (restore j) o j) (log ++ e ∷ [])
after_redo_or_not j log e None some none h = no_more j j log e none refl (λ t there. there) h
after_redo_or_not j log e (Some x) some none h = no_more j (restore j x) log e none refl (λ t there. restored_held j x t (some x refl) there) h

next_is_orderly : (bound : ℕ) (past : Past) (e : Event) → IsOrderly past.marks past.log → IsOrderly (followed_by bound past e).marks (followed_by bound past e).log
next_is_orderly bound past (Admit m f) h = no_more past.marks past.marks past.log _ refl refl (λ t some. some) h
next_is_orderly bound past (Look m a) h = no_more past.marks past.marks past.log _ refl refl (λ t some. some) h
next_is_orderly bound past (Sweep m) h = no_more past.marks past.marks past.log _ refl refl (λ t some. some) h
next_is_orderly bound past (Forget m n) h = no_more past.marks past.marks past.log _ refl refl (λ t some. some) h
next_is_orderly bound past (Do m c) h = after_do bound past.marks past.log _ m c (reason_of past c) h
next_is_orderly bound past (Undo m) h = after_undo_or_not past.marks past.log _ (last_of past.marks.done) (λ x last. last_occurs past.marks.done x last) refl h
next_is_orderly bound past (Redo m) h = after_redo_or_not past.marks past.log _ (last_of past.marks.undone) (λ x last. last_occurs past.marks.undone x last) refl h
next_is_orderly bound past (UndoOf m t) h = after_undo_or_not past.marks past.log _ (ticket_moved past (UndoOf m t)) (λ x is. undo_of_there past m t x is) refl h
next_is_orderly bound past (RedoOf m t) h = after_redo_or_not past.marks past.log _ (ticket_moved past (RedoOf m t)) (λ x is. redo_of_there past m t x is) refl h

is_orderly : (bound : ℕ) (past : Past) (events : List Event) → IsOrderly past.marks past.log → IsOrderly (fold (followed_by bound) past events).marks (fold (followed_by bound) past events).log
is_orderly bound past [] h = h
is_orderly bound past (e ∷ events) h = is_orderly bound (followed_by bound past e) events (next_is_orderly bound past e h)

of_history : (bound : ℕ) (history : List Event) → IsOrderly (past_of bound history).marks (past_of bound history).log
of_history bound history = is_orderly bound nothing history (record { ascending = tt; few = tt; taken = tt; held = λ t some. absurd (omega arith) })

pub held_ascend : (bound : ℕ) (history : List Event) → AreAscending (tickets_of (commands_of (past_of bound history)))
held_ascend bound history =
    let past = past_of bound history in
    let h = of_history bound history in
    subst AreAscending (sym (held_picked past.marks past.log h.taken)) (ascending_filter (λ t. is_among past.marks.done t || is_among past.marks.undone t) (tickets_in past.log) h.ascending)

pub done_are_held : (bound : ℕ) (history : List Event) → tickets_of (filter (λ j. j.done) (commands_of (past_of bound history))) ≡ (past_of bound history).marks.done
done_are_held bound history =
    let past = past_of bound history in
    let h = of_history bound history in
    done_picked past.marks past.log h.taken ∙ picks (tickets_in past.log) past.marks.done h.ascending (done_ascends bound history) (λ t some. h.held t (omega arith))

-- ---- those that can be redone

undone_alone : (done undone : Bool) (t : ℕ) (c : Command) (js : List Journalled)
    → tickets_of (filter (λ j. not j.done) (cons_option (option_map (λ d. record { ticket = t; done = d; command = c }) (cond done (Some true) (cond undone (Some false) None))) js))
    ≡ cond (not done && undone) (t ∷ tickets_of (filter (λ j. not j.done) js)) (tickets_of (filter (λ j. not j.done) js))
undone_alone true undone t c js = refl
undone_alone false true t c js = refl
undone_alone false false t c js = refl

undone_picked : (marks : Marks) (log : List Entry) → AreTaken log
    → tickets_of (filter (λ j. not j.done) (filter_map (λ entry. journalled_of marks entry.event entry.ticket) log)) ≡ filter (λ t. not (is_among marks.done t) && is_among marks.undone t) (tickets_in log)
undone_picked marks log h =
    picked marks (λ (js : List Journalled). tickets_of (filter (λ j. not j.done) js)) (λ t. not (is_among marks.done t) && is_among marks.undone t) (λ t c js. undone_alone (is_among marks.done t) (is_among marks.undone t) t c js) refl log h

-- in an ascending list whose tickets pass a test just where they are in another list, which has no more
among_picked : (p : ℕ → Bool) (t : ℕ) (xs ys : List ℕ) → (is_among ys t ≡ true → (p t ≡ true) × (1 ≤ occurs t xs)) → (is_among ys t ≡ false → p t ≡ false) → is_among (filter p xs) t ≡ is_among ys t
among_picked p t xs ys here out =
    elim (cases_Bool (is_among ys t)) [
      | inl there ↦ any-filter_same (λ s. s == t) p true (λ k same. ap p (eqb-true k t same) ∙ (here there).0) xs ∙ among_occurs t xs (here there).1 ∙ sym there
      | inr none ↦ any-filter_same (λ s. s == t) p false (λ k same. ap p (eqb-true k t same) ∙ out none) xs ∙ sym none
    ]

not_both : (done : Bool) → (not done && false) ≡ false
not_both true = refl
not_both false = refl

pub undone_are_held : (bound : ℕ) (history : List Event) (t : ℕ)
    → is_among (tickets_of (filter (λ j. not j.done) (commands_of (past_of bound history)))) t ≡ is_among (past_of bound history).marks.undone t
undone_are_held bound history t =
    let past = past_of bound history in
    let marks = past.marks in
    let h = of_history bound history in
    let one = (orderly bound history).in_one t in
    ap (λ (l : List ℕ). is_among l t) (undone_picked marks past.log h.taken)
    ∙ among_picked (λ s. not (is_among marks.done s) && is_among marks.undone s) t (tickets_in past.log) marks.undone
    (λ there.
    let some = occurs_among t marks.undone there in
    let once = one.once in
    let few = one.undone in
    let not_done : is_among marks.done t ≡ false = not_struck t marks.done (omega arith) in
    (rw (not_done, there) refl, h.held t (omega arith)))
    (λ none. rw none (not_both (is_among marks.done t)))
