-- The marks of a history have each ticket in one list at most, and once: lemmas for the books above.
use Rattle.std.proofs.Common.{◌≡◌, ℕ, ◌+◌, ◌-◌, ◌<◌, ◌≤◌, Bool, true, false, Option, Some, None, List, [], ◌∷◌, ◌++◌, length, take, drop, refl, sym, ◌∙◌, ap, subst, inl, inr, arith}
use Rattle.std.specs.Prelude.{nat_lt, ◌==◌, ◌||◌}
use Rattle.std.specs.List.{list_any}
use Rattle.std.specs.Option.{option_map_or}
use Rattle.std.proofs.lemmas.Bool.{cases_Bool, eq-eqb, eqb-true, false≢true}
use Rattle.std.proofs.lemmas.Bool.Decides.{nat_tests}
use Rattle.std.proofs.lemmas.List.{take_all, take_more, take-append-drop}
use Rattle.std.proofs.lemmas.List.Folds.{list_any-append}
use Rattle.std.proofs.lemmas.Option.{slice_get_within, get_or_from_slice_get}
use Rattle.history.specs.declared.event.Event.{Event}
use Rattle.history.specs.declared.event.Event.TheVariants.{Admit, Look, Sweep, Forget, Do, Undo, Redo, UndoOf, RedoOf}
use Rattle.history.specs.declared.event.Command.{Command}
use Rattle.history.specs.declared.event.Reason.{Reason}
use Rattle.history.specs.Marks.{Marks, last_of, newest, without, in_place, after_command, strike, restore}
use Rattle.history.specs.Tickets.{InOne, tally, occurs}
use Rattle.history.specs.Journal.{commands_of, is_among, over, under}
use Rattle.history.specs.History.{Past, followed_by, marks_after, ticket_moved, ticket_unless, reason_of, unless_buried}

-- ---- how often a ticket is in a list

pub tally_same : (x t : ℕ) → (x == t) ≡ true → tally x t ≡ 1
tally_same x t same = rw same

pub tally_other : (x t : ℕ) → (x == t) ≡ false → tally x t ≡ 0
tally_other x t other = rw other

occurs-append : (t : ℕ) (xs ys : List ℕ) → occurs t (xs ++ ys) ≡ occurs t xs + occurs t ys
occurs-append t [] ys = omega arith
occurs-append t (x ∷ xs) ys = omega (arith, occurs-append t xs ys)

pub occurs_push : (t : ℕ) (xs : List ℕ) (x : ℕ) → occurs t (xs ++ x ∷ []) ≡ occurs t xs + tally x t
occurs_push t xs x = omega (arith, occurs-append t xs (x ∷ []))

pub occurs_newest : (t n : ℕ) (xs : List ℕ) → occurs t (newest n xs) ≤ occurs t xs
occurs_newest t n xs =
    let k = length xs - n in
    omega (arith, occurs-append t (take k xs) (drop k xs), ap (λ (l : List ℕ). occurs t l) (take-append-drop k xs))

occurs_without_itself : (x : ℕ) (xs : List ℕ) → occurs x (without x xs) ≡ 0
occurs_without_itself x [] = refl
occurs_without_itself x (t ∷ xs) =
    elim (cases_Bool (t == x)) [ inl same ↦ simp same (occurs_without_itself x xs) | inr other ↦ simp other (omega (arith, occurs_without_itself x xs)) ]

occurs_without_other : (t x : ℕ) (xs : List ℕ) → (x == t) ≡ false → occurs t (without x xs) ≡ occurs t xs
occurs_without_other t x [] ne = refl
occurs_without_other t x (s ∷ xs) ne =
    elim (cases_Bool (s == x)) [
      | inl same ↦ let is : s ≡ x = eqb-true s x same in let no : (s == t) ≡ false = ap (λ (n : ℕ). n == t) is ∙ ne in rw same (rw no (omega (arith, occurs_without_other t x xs ne)))
      | inr other ↦ rw other (ap (λ (n : ℕ). tally s t + n) (occurs_without_other t x xs ne))
    ]

pub occurs_in_place : (t x : ℕ) (xs : List ℕ) → occurs t (in_place x xs) ≡ occurs t xs + tally x t
occurs_in_place t x [] = omega arith
occurs_in_place t x (s ∷ xs) =
    elim (cases_Bool (nat_lt x s)) [ inl before ↦ rw before (omega arith) | inr not_yet ↦ rw not_yet (omega (arith, occurs_in_place t x xs)) ]

pub without_absent : (x : ℕ) (xs : List ℕ) → occurs x xs ≡ 0 → without x xs ≡ xs
without_absent x [] none = refl
without_absent x (t ∷ xs) none =
    elim (cases_Bool (t == x)) [
      | inl same ↦ let here = tally_same t x same in absurd (omega arith)
      | inr other ↦ rw other (ap (λ (l : List ℕ). t ∷ l) (without_absent x xs (omega arith)))
    ]

-- a list with a last ticket
split_last : (xs : List ℕ) (x : ℕ) → last_of xs ≡ Some x → take (length xs - 1) xs ++ x ∷ [] ≡ xs
split_last xs x last =
    let n = length xs - 1 in
    let within : n < length xs = slice_get_within xs n x last in
    ap (λ (y : ℕ). take n xs ++ y ∷ []) (sym (get_or_from_slice_get xs n x x last)) ∙ sym (take_more xs n x within) ∙ take_all (n + 1) xs (omega arith)

pub last_occurs : (xs : List ℕ) (x : ℕ) → last_of xs ≡ Some x → 1 ≤ occurs x xs
last_occurs xs x last =
    let here = tally_same x x (eq-eqb x x refl) in
    omega (arith, occurs_push x (take (length xs - 1) xs) x, ap (λ (l : List ℕ). occurs x l) (split_last xs x last))

-- ---- the marks of a history

one_more : (bound : ℕ) (j : Marks) (t : ℕ) → InOne j t → InOne (after_command bound j) t
one_more bound j t h =
    let n = j.tickets + 1 in
    let few : occurs t (newest bound (j.done ++ n ∷ [])) ≤ occurs t j.done + tally n t = omega (arith, occurs_newest t bound (j.done ++ n ∷ []), occurs_push t j.done n) in
    elim (cases_Bool (n == t)) [
      | inl same ↦
          let is : n ≡ t = eqb-true n t same in
          let none : occurs t j.done + occurs t j.struck ≡ 0 = h.given (omega arith) in
          let one = tally_same n t same in
          record { once = omega arith; undone = omega arith; given = λ later. absurd (omega arith) }
      | inr other ↦
          let zero = tally_other n t other in
          record { once = omega (arith, h.once); undone = omega arith; given = λ later. omega (arith, h.given (omega arith)) }
    ]

struck_one : (j : Marks) (x t : ℕ) → 1 ≤ occurs x j.done → InOne j t → InOne (strike j x) t
struck_one j x t some h =
    let struck = occurs_push t j.struck x in
    let undone = occurs_push t j.undone x in
    let once = h.once in
    let few = h.undone in
    elim (cases_Bool (x == t)) [
      | inl same ↦
          let is : x ≡ t = eqb-true x t same in
          let one = tally_same x t same in
          let here : 1 ≤ occurs t j.done = subst (λ (n : ℕ). 1 ≤ occurs n j.done) is some in
          let none : occurs t (without x j.done) ≡ 0 = ap (λ (n : ℕ). occurs t (without n j.done)) is ∙ occurs_without_itself t j.done in
          record { once = omega arith; undone = omega arith; given = λ later. let none_yet = h.given later in absurd (omega arith) }
      | inr other ↦
          let zero = tally_other x t other in
          let as_before = occurs_without_other t x j.done other in
          record { once = omega arith; undone = omega arith; given = λ later. let none_yet = h.given later in omega arith }
    ]

restored_one : (j : Marks) (x t : ℕ) → 1 ≤ occurs x j.undone → InOne j t → InOne (restore j x) t
restored_one j x t some h =
    let done = occurs_in_place t x j.done in
    let once = h.once in
    let few = h.undone in
    elim (cases_Bool (x == t)) [
      | inl same ↦
          let is : x ≡ t = eqb-true x t same in
          let one = tally_same x t same in
          let here : 1 ≤ occurs t j.undone = subst (λ (n : ℕ). 1 ≤ occurs n j.undone) is some in
          let stands : occurs t (without x j.struck) ≡ 0 = ap (λ (n : ℕ). occurs t (without n j.struck)) is ∙ occurs_without_itself t j.struck in
          let none : occurs t (without x j.undone) ≡ 0 = ap (λ (n : ℕ). occurs t (without n j.undone)) is ∙ occurs_without_itself t j.undone in
          record { once = omega arith; undone = omega arith; given = λ later. let none_yet = h.given later in absurd (omega arith) }
      | inr other ↦
          let zero = tally_other x t other in
          let struck = occurs_without_other t x j.struck other in
          let undone = occurs_without_other t x j.undone other in
          record { once = omega arith; undone = omega arith; given = λ later. let none_yet = h.given later in omega arith }
    ]

abbrev pub EachInOne : Marks → Type 0
EachInOne j = (t : ℕ) → InOne j t

do_in_one : (bound : ℕ) (j : Marks) (m : ℕ) (c : Command) (o : Option Reason) → EachInOne j → EachInOne (marks_after bound j (Do m c) (ticket_unless j o))
do_in_one bound j m c None h = λ t. one_more bound j t (h t)
do_in_one bound j m c (Some reason) h = h

undo_in_one : (j : Marks) (o : Option ℕ) → ((x : ℕ) → o ≡ Some x → 1 ≤ occurs x j.done) → EachInOne j → EachInOne (option_map_or (strike j) o j)
undo_in_one j None some h = h
undo_in_one j (Some x) some h = λ t. struck_one j x t (some x refl) (h t)

redo_in_one : (j : Marks) (o : Option ℕ) → ((x : ℕ) → o ≡ Some x → 1 ≤ occurs x j.undone) → EachInOne j → EachInOne (option_map_or (restore j) o j)
redo_in_one j None some h = h
redo_in_one j (Some x) some h = λ t. restored_one j x t (some x refl) (h t)

-- ---- what an undo or a redo of a ticket reaches

-- a ticket is in a list where it occurs there
pub among_occurs : (t : ℕ) (xs : List ℕ) → 1 ≤ occurs t xs → is_among xs t ≡ true
among_occurs t [] some = absurd (omega arith)
among_occurs t (x ∷ xs) some =
    elim (cases_Bool (x == t)) [
      | inl same ↦ rw same refl
      | inr other ↦ let zero = tally_other x t other in rw other (among_occurs t xs (omega arith))
    ]

pub occurs_among : (t : ℕ) (xs : List ℕ) → is_among xs t ≡ true → 1 ≤ occurs t xs
occurs_among t [] is = absurd (false≢true is)
occurs_among t (x ∷ xs) is =
    elim (cases_Bool (x == t)) [
      | inl same ↦ let one = tally_same x t same in omega arith
      | inr other ↦ let more = occurs_among t xs (sym (ap (λ b. b || is_among xs t) other) ∙ is) in omega arith
    ]

-- what is moved by its ticket is there
unburied_there : (xs : List ℕ) (other : Option ℕ) (t x : ℕ) → unless_buried (is_among xs t) other t ≡ Some x → 1 ≤ occurs x xs
unburied_there xs other t x is = by (is_among xs t) other refl is
  where
    by : (b : Bool) (o : Option ℕ) → is_among xs t ≡ b → unless_buried b o t ≡ Some x → 1 ≤ occurs x xs
    by true None there moved = let same : t ≡ x = cc in subst (λ (n : ℕ). 1 ≤ occurs n xs) same (occurs_among t xs there)
    by true (Some o) there moved = absurd cc
    by false o there moved = absurd cc

pub undo_of_there : (past : Past) (m t x : ℕ) → ticket_moved past (UndoOf m t) ≡ Some x → 1 ≤ occurs x past.marks.done
undo_of_there past m t x is = unburied_there past.marks.done (over (commands_of past) t) t x is

pub redo_of_there : (past : Past) (m t x : ℕ) → ticket_moved past (RedoOf m t) ≡ Some x → 1 ≤ occurs x past.marks.undone
redo_of_there past m t x is = unburied_there past.marks.undone (under (commands_of past) t) t x is

-- after one event more
pub next_in_one : (bound : ℕ) (past : Past) (e : Event) → EachInOne past.marks → EachInOne (followed_by bound past e).marks
next_in_one bound past (Admit m f) h = h
next_in_one bound past (Look m a) h = h
next_in_one bound past (Sweep m) h = h
next_in_one bound past (Forget m n) h = h
next_in_one bound past (Do m c) h = do_in_one bound past.marks m c (reason_of past c) h
next_in_one bound past (Undo m) h = undo_in_one past.marks (last_of past.marks.done) (λ x last. last_occurs past.marks.done x last) h
next_in_one bound past (Redo m) h = redo_in_one past.marks (last_of past.marks.undone) (λ x last. last_occurs past.marks.undone x last) h
next_in_one bound past (UndoOf m t) h = undo_in_one past.marks (ticket_moved past (UndoOf m t)) (λ x is. undo_of_there past m t x is) h
next_in_one bound past (RedoOf m t) h = redo_in_one past.marks (ticket_moved past (RedoOf m t)) (λ x is. redo_of_there past m t x is) h

-- ---- what is struck

-- striking a ticket leaves the others as they were
pub struck_other : (xs : List ℕ) (t ticket : ℕ) → (t == ticket) ≡ false → list_any (λ s. s == ticket) (xs ++ t ∷ []) ≡ list_any (λ s. s == ticket) xs
struck_other xs t ticket other = list_any-append (λ s. s == ticket) xs (t ∷ []) ∙ rw other (or_false (list_any (λ s. s == ticket) xs))
  where
    or_false : (b : Bool) → (b || false) ≡ b
    or_false true = refl
    or_false false = refl

pub struck_now : (xs : List ℕ) (t : ℕ) → list_any (λ s. s == t) (xs ++ t ∷ []) ≡ true
struck_now [] t = grind (arith, nat_tests)
struck_now (x ∷ xs) t = rw (struck_now xs t) (or_true (x == t))
  where
    or_true : (b : Bool) → (b || true) ≡ true
    or_true true = refl
    or_true false = refl

pub not_struck : (n : ℕ) (xs : List ℕ) → occurs n xs ≡ 0 → list_any (λ s. s == n) xs ≡ false
not_struck n [] none = refl
not_struck n (x ∷ xs) none =
    elim (cases_Bool (x == n)) [
      | inl same ↦ let here = tally_same x n same in absurd (omega arith)
      | inr other ↦ rw other (not_struck n xs (omega arith))
    ]
