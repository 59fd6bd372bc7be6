-- A command that is undone at once leaves in force what was.
use Rattle.std.proofs.Common.{◌≡◌, ℕ, ◌+◌, ◌-◌, ◌<◌, ◌≤◌, false, cond, Option, Some, None, List, [], ◌∷◌, ◌++◌, length, drop, refl, ◌∙◌, ap, arith, length-append}
use Rattle.std.specs.Prelude.{fold, filter, max, not, ◌==◌, slice_get}
use Rattle.std.specs.List.{list_any}
use Rattle.std.specs.Option.{option_map_or}
use Rattle.std.proofs.lemmas.List.{drop-append-le, append-nil}
use Rattle.std.proofs.lemmas.List.Elements.{filter-append}
use Rattle.std.proofs.lemmas.List.Sums.{fold-append}
use Rattle.std.proofs.lemmas.Bool.Decides.{nat_tests}
use Rattle.history.specs.declared.event.Event.{Event}
use Rattle.history.specs.declared.event.Event.TheVariants.{Admit, Look, Sweep, Forget, Do, Undo, Redo, UndoOf, RedoOf}
use Rattle.history.specs.declared.event.Command.{Command}
use Rattle.history.specs.declared.event.Entry.{Entry}
use Rattle.history.specs.declared.event.Reason.{Reason}
use Rattle.history.specs.Marks.{Marks, newest, last_of, strike, restore}
use Rattle.history.specs.History.{Past, past_of, nothing, followed_by, marks_after, ticket_for, ticket_moved, ticket_unless, reason_of, standing_of, stands_by, is_unstruck, stands}
use Rattle.dns_text.specs.declared.record.Question.{Question}
use Rattle.ranked.specs.Cell.{shown_at}
use Rattle.history.specs.TicketLaws.{struck_now, struck_other}
use Rattle.history.specs.Cells.{cell_by, cell_of, shows}

-- a ticket that was given out
abbrev UpTo : ℕ → Option ℕ → Type 0
UpTo n None = Unit {0}
UpTo n (Some ticket) = ticket ≤ n

abbrev EachUpTo : ℕ → List Entry → Type 0
EachUpTo n [] = Unit {0}
EachUpTo n (e ∷ es) = UpTo n e.ticket × EachUpTo n es

later : (m n : ℕ) (o : Option ℕ) → m ≤ n → UpTo m o → UpTo n o
later m n None le h = tt
later m n (Some ticket) le h = omega arith

each_push : (m n : ℕ) (es : List Entry) (e : Entry) → m ≤ n → EachUpTo m es → UpTo n e.ticket → EachUpTo n (es ++ e ∷ [])
each_push m n [] e le h new = (new, tt)
each_push m n (x ∷ es) e le h new = (later m n x.ticket le h.0, each_push m n es e le h.1 new)

undo_tickets : (j : Marks) (o : Option ℕ) → (option_map_or (strike j) o j).tickets ≡ j.tickets
undo_tickets j None = refl
undo_tickets j (Some t) = refl

redo_tickets : (j : Marks) (o : Option ℕ) → (option_map_or (restore j) o j).tickets ≡ j.tickets
redo_tickets j None = refl
redo_tickets j (Some t) = refl

do_tickets : (bound : ℕ) (j : Marks) (m : ℕ) (c : Command) (o : Option Reason)
    → (j.tickets ≤ (marks_after bound j (Do m c) (ticket_unless j o)).tickets) × UpTo (marks_after bound j (Do m c) (ticket_unless j o)).tickets (ticket_unless j o)
do_tickets bound j m c None = (omega arith, omega arith)
do_tickets bound j m c (Some r) = (omega arith, tt)

step_tickets : (bound : ℕ) (past : Past) (e : Event)
    → (past.marks.tickets ≤ (followed_by bound past e).marks.tickets) × UpTo (followed_by bound past e).marks.tickets (ticket_for past e)
step_tickets bound past (Admit m f) = (omega arith, tt)
step_tickets bound past (Look m a) = (omega arith, tt)
step_tickets bound past (Sweep m) = (omega arith, tt)
step_tickets bound past (Forget m n) = (omega arith, tt)
step_tickets bound past (Do m c) = do_tickets bound past.marks m c (reason_of past c)
step_tickets bound past (Undo m) = (omega (arith, undo_tickets past.marks (last_of past.marks.done)), tt)
step_tickets bound past (Redo m) = (omega (arith, redo_tickets past.marks (last_of past.marks.undone)), tt)
step_tickets bound past (UndoOf m named) = (omega (arith, undo_tickets past.marks (ticket_moved past (UndoOf m named))), tt)
step_tickets bound past (RedoOf m named) = (omega (arith, redo_tickets past.marks (ticket_moved past (RedoOf m named))), tt)

each_given : (bound : ℕ) (past : Past) (events : List Event) → EachUpTo past.marks.tickets past.log → EachUpTo (fold (followed_by bound) past events).marks.tickets (fold (followed_by bound) past events).log
each_given bound past [] h = h
each_given bound past (e ∷ events) h =
    let step = step_tickets bound past e in
    let next = followed_by bound past e in
    each_given bound next events (each_push past.marks.tickets next.marks.tickets past.log _ step.0 h step.1)

-- a ticket that was given out later is struck: the others are as before
same_stands : (j k : Marks) (t n : ℕ) → k.struck ≡ j.struck ++ t ∷ [] → n < t → (e : Event) (o : Option ℕ) → UpTo n o → stands_by (is_unstruck k) e o ≡ stands_by (is_unstruck j) e o
same_stands j k t n is lt (Admit m f) o h = refl
same_stands j k t n is lt (Look m a) o h = refl
same_stands j k t n is lt (Sweep m) o h = refl
same_stands j k t n is lt (Forget m name) o h = refl
same_stands j k t n is lt (Do m c) None h = refl
same_stands j k t n is lt (Do m c) (Some ticket) h =
    let other : (t == ticket) ≡ false = grind (arith, nat_tests) in
    ap (λ (l : List ℕ). not (list_any (λ s. s == ticket) l)) is ∙ ap not (struck_other j.struck t ticket other)
same_stands j k t n is lt (Undo m) o h = refl
same_stands j k t n is lt (Redo m) o h = refl
same_stands j k t n is lt (UndoOf m named) o h = refl
same_stands j k t n is lt (RedoOf m named) o h = refl

same_standing : (j k : Marks) (t n : ℕ) → k.struck ≡ j.struck ++ t ∷ [] → n < t → (es : List Entry) → EachUpTo n es → filter (stands k) es ≡ filter (stands j) es
same_standing j k t n is lt [] h = refl
same_standing j k t n is lt (e ∷ es) h =
    rw (same_stands j k t n is lt e.event e.ticket h.0) (ap (λ (l : List Entry). cond (stands j e) (e ∷ l) l) (same_standing j k t n is lt es h.1))

last_at : (xs : List ℕ) (x : ℕ) → slice_get (xs ++ x ∷ []) (length xs) ≡ Some x
last_at [] x = refl
last_at (y ∷ xs) x = last_at xs x

pub last_push : (xs : List ℕ) (x : ℕ) → last_of (xs ++ x ∷ []) ≡ Some x
last_push xs x =
    let size : length (xs ++ x ∷ []) - 1 ≡ length xs = omega (arith, length-append xs (x ∷ [])) in
    ap (λ i. slice_get (xs ++ x ∷ []) i) size ∙ last_at xs x

pub last_newest : (bound : ℕ) (xs : List ℕ) (t : ℕ) → 1 ≤ bound → last_of (newest bound (xs ++ t ∷ [])) ≡ Some t
last_newest bound xs t some =
    let n = length (xs ++ t ∷ []) - bound in
    let few : n ≤ length xs = omega (arith, length-append xs (t ∷ [])) in
    ap last_of (drop-append-le n xs (t ∷ []) few) ∙ last_push (drop n xs) t

-- the same, of the two events one after the other
step_by_step : (bound : ℕ) (past : Past) (m n : ℕ) (c : Command) → 1 ≤ bound → EachUpTo past.marks.tickets past.log → reason_of past c ≡ None
    → standing_of (followed_by bound (followed_by bound past (Do m c)) (Undo n)) ≡ standing_of past
step_by_step bound past m n c some given accepted =
    let j = past.marks in
    let t = j.tickets + 1 in
    let k : Marks = strike (record { tickets = t; done = newest bound (j.done ++ t ∷ []); undone = []; struck = j.struck }) t in
    let parts : (x y : Entry) → stands k x ≡ false → stands k y ≡ false → filter (stands k) ((past.log ++ x ∷ []) ++ y ∷ []) ≡ filter (stands j) past.log =
    λ x y no none.
    filter-append (stands k) (past.log ++ x ∷ []) (y ∷ [])
    ∙ (rw none (append-nil (filter (stands k) (past.log ++ x ∷ [])))
    ∙ (filter-append (stands k) past.log (x ∷ [])
    ∙ (rw no (append-nil (filter (stands k) past.log))
    ∙ same_standing j k t j.tickets refl (omega arith) past.log given)))
    in
    rw (accepted, last_newest bound j.done t some) (parts _ _ (ap not (struck_now j.struck t)) refl)

pub stands_as_before : (bound : ℕ) (history : List Event) (m n : ℕ) (c : Command) → 1 ≤ bound → reason_of (past_of bound history) c ≡ None
    → standing_of (past_of bound (history ++ Do m c ∷ Undo n ∷ [])) ≡ standing_of (past_of bound history)
stands_as_before bound history m n c some accepted =
    ap standing_of (fold-append (followed_by bound) nothing history (Do m c ∷ Undo n ∷ []))
    ∙ step_by_step bound (past_of bound history) m n c some (each_given bound nothing history tt) accepted

-- the clock after both, to a look from both moments on
pub later_look : (now m n t : ℕ) → m ≤ t → n ≤ t → max (max (max now m) n) t ≡ max now t
later_look now m n t earlier before = omega (arith)

pub shows_as_before : (bound : ℕ) (history : List Event) (m n : ℕ) (c : Command) → 1 ≤ bound → reason_of (past_of bound history) c ≡ None
    → (question : Question) (t : ℕ) → m ≤ t → n ≤ t → shows (past_of bound (history ++ Do m c ∷ Undo n ∷ [])) question t ≡ shows (past_of bound history) question t
shows_as_before bound history m n c some accepted question t earlier before =
    let past = past_of bound history in
    let both : past_of bound (history ++ Do m c ∷ Undo n ∷ []) ≡ followed_by bound (followed_by bound past (Do m c)) (Undo n) = fold-append (followed_by bound) nothing history (Do m c ∷ Undo n ∷ []) in
    ap (λ (entries : List Entry). shown_at (cell_by question entries) (max (past_of bound (history ++ Do m c ∷ Undo n ∷ [])).now t)) (stands_as_before bound history m n c some accepted)
    ∙ ap (λ (now : ℕ). shown_at (cell_of past question) (max now t)) (ap (λ (p : Past). p.now) both)
    ∙ ap (λ (moment : ℕ). shown_at (cell_of past question) moment) (later_look past.now m n t earlier before)
