-- A redo right after an undo puts back what was in force before the undo: what can be undone is not struck, and is there once.
use Rattle.std.proofs.Common.{◌≡◌, ℕ, ◌+◌, ◌≤◌, Bool, false, cond, Option, Some, None, List, [], ◌∷◌, ◌++◌, refl, sym, ◌∙◌, ap, subst, arith, append_assoc}
use Rattle.std.specs.Prelude.{filter, max, not, ◌==◌}
use Rattle.std.proofs.lemmas.Bool.{eq-eqb}
use Rattle.std.proofs.lemmas.List.{append-nil}
use Rattle.std.proofs.lemmas.List.Elements.{filter-append}
use Rattle.std.proofs.lemmas.List.Sums.{fold-append}
use Rattle.ranked.specs.Cell.{shown_at}
use Rattle.history.specs.declared.event.Event.{Event}
use Rattle.history.specs.declared.event.Event.TheVariants.{Do, Undo, Redo, UndoOf, RedoOf}
use Rattle.history.specs.declared.event.Command.{Command}
use Rattle.history.specs.declared.event.Settings.{Settings}
use Rattle.history.specs.declared.event.Entry.{Entry}
use Rattle.history.specs.declared.event.Reply.TheVariants.{Undone}
use Rattle.history.specs.Marks.{Marks, AreAscending, last_of, without, after_undo, after_redo, strike, restore}
use Rattle.history.specs.Tickets.{InOne, occurs}
use Rattle.history.specs.History.{Past, past_of, nothing, followed_by, standing_of, stands}
use Rattle.history.specs.Changes.{tables_by}
use Rattle.history.specs.Cells.{cell_by}
use Rattle.history.specs.Reply.{reply_of, reply_to_undo}
use Rattle.history.specs.Redo.{SameFrom, StandsAgain, PutsBack}
use Rattle.history.specs.TicketLaws.{last_occurs, without_absent}
use Rattle.history.proofs.OrderLaw.{AreOrderly, orderly, put_back_in_place}
use Rattle.history.proofs.UndoLaw.{last_push, last_newest, later_look}

-- what was struck last is left out again
struck_again : (x : ℕ) (xs : List ℕ) → occurs x xs ≡ 0 → without x (xs ++ x ∷ []) ≡ xs
struck_again x xs none =
    let itself : without x (x ∷ []) ≡ [] = ap (λ (b : Bool). cond (not b) (x ∷ []) []) (eq-eqb x x refl) in
    filter-append (λ t. not (t == x)) xs (x ∷ []) ∙ ap (λ (l : List ℕ). without x xs ++ l) itself ∙ append-nil (without x xs) ∙ without_absent x xs none

-- a command that can be undone is at its place again: the marks after both are the marks before
restored : (j : Marks) (x : ℕ) → InOne j x → AreAscending j.done → 1 ≤ occurs x j.done → restore (strike j x) x ≡ j
restored j x h order here =
    let once = h.once in
    let few = h.undone in
    let not_struck : occurs x j.struck ≡ 0 = omega arith in
    let not_undone : occurs x j.undone ≡ 0 = omega arith in
    rw (put_back_in_place x j.done order here, struck_again x j.undone not_undone, struck_again x j.struck not_struck) refl

undone_then_redone : (j : Marks) (x : ℕ) → AreOrderly j → last_of j.done ≡ Some x → after_redo (after_undo j) ≡ j
undone_then_redone j x h last = rw (last, last_push j.undone x) (restored j x (h.in_one x) h.ascending (last_occurs j.done x last))

-- what an undo reaches, by its reply
reached : (o : Option ℕ) (x : ℕ) → reply_to_undo o ≡ Undone x → o ≡ Some x
reached None x is = cc
reached (Some y) x is = cc

-- neither event is in force
both_left_out : (k : Marks) (log : List Entry) (x y : Entry) → stands k x ≡ false → stands k y ≡ false → filter (stands k) ((log ++ x ∷ []) ++ y ∷ []) ≡ filter (stands k) log
both_left_out k log x y first second =
    filter-append (stands k) (log ++ x ∷ []) (y ∷ [])
    ∙ (rw second (append-nil (filter (stands k) (log ++ x ∷ [])))
    ∙ (filter-append (stands k) log (x ∷ []) ∙ rw first (append-nil (filter (stands k) log))))

same_after : (bound : ℕ) (past : Past) (n r x : ℕ) → AreOrderly past.marks → last_of past.marks.done ≡ Some x
    → SameFrom (max n r) past (followed_by bound (followed_by bound past (Undo n)) (Redo r))
same_after bound past n r x h last =
    let after = followed_by bound (followed_by bound past (Undo n)) (Redo r) in
    let marks : after.marks ≡ past.marks = undone_then_redone past.marks x h last in
    let standing : standing_of after ≡ standing_of past =
    ap (λ (k : Marks). filter (stands k) after.log) marks ∙ both_left_out past.marks past.log _ _ refl refl in
    record {
      standing = standing;
      tables = ap (λ (entries : List Entry). (tables_by entries).local) standing;
      stubs = ap (λ (entries : List Entry). (tables_by entries).stubs) standing;
      marks = marks;
      shown = λ question t later.
          ap (λ (entries : List Entry). shown_at (cell_by question entries) (max after.now t)) standing
          ∙ ap (λ (moment : ℕ). shown_at (cell_by question (standing_of past)) moment) (later_look past.now n r t (omega arith) (omega arith));
    }

same_again : (bound : ℕ) (history : List Event) (n r x : ℕ) → last_of (past_of bound history).marks.done ≡ Some x
    → SameFrom (max n r) (past_of bound history) (past_of bound (history ++ Undo n ∷ Redo r ∷ []))
same_again bound history n r x last =
    let past = past_of bound history in
    let both : past_of bound (history ++ Undo n ∷ Redo r ∷ []) ≡ followed_by bound (followed_by bound past (Undo n)) (Redo r) = fold-append (followed_by bound) nothing history (Undo n ∷ Redo r ∷ []) in
    subst (λ (p : Past). SameFrom (max n r) past p) (sym both) (same_after bound past n r x (orderly bound history) last)

pub puts_back : (settings : Settings) (history : List Event) (n r x : ℕ) → reply_of settings (past_of settings.journal history) (Undo n) ≡ Undone x → PutsBack settings history n r x
puts_back settings history n r x is =
    let bound = settings.journal in
    let past = past_of bound history in
    let last : last_of past.marks.done ≡ Some x = reached (last_of past.marks.done) x is in
    let undone : past_of bound (history ++ Undo n ∷ []) ≡ followed_by bound past (Undo n) = fold-append (followed_by bound) nothing history (Undo n ∷ []) in
    record {
      reply = ap (λ (p : Past). reply_of settings p (Redo r)) undone ∙ rw (last, last_push past.marks.undone x) refl;
      same = same_again bound history n r x last;
    }

pub stands_again : (bound : ℕ) (history : List Event) (c : Command) → 1 ≤ bound → StandsAgain bound history c
stands_again bound history c some = λ m n r accepted.
    let past = past_of bound history in
    let given = history ++ Do m c ∷ [] in
    let after : past_of bound given ≡ followed_by bound past (Do m c) = fold-append (followed_by bound) nothing history (Do m c ∷ []) in
    let newest_one : last_of (followed_by bound past (Do m c)).marks.done ≡ Some (past.marks.tickets + 1) = rw accepted (last_newest bound past.marks.done (past.marks.tickets + 1) some) in
    let last : last_of (past_of bound given).marks.done ≡ Some (past.marks.tickets + 1) = ap (λ (p : Past). last_of p.marks.done) after ∙ newest_one in
    subst (λ (h : List Event). SameFrom (max n r) (past_of bound given) (past_of bound h)) (append_assoc history (Do m c ∷ []) (Undo n ∷ Redo r ∷ []))
    (same_again bound given n r (past.marks.tickets + 1) last)
