-- Lemmas of the flushes that a shelf keeps.
use Rattle.std.proofs.Common.{◌≡◌, ◌≢◌, ◌<◌, ◌∙◌, ◌++◌, ◌∷◌, [], ℕ, Bool, true, false, Option, Some, None, List, map, fold, refl, sym, ap, subst, arith}
use Rattle.std.specs.Prelude.{◌==◌, ◌&&◌, not, if◌then◌else◌}
use Rattle.std.specs.List.{AllByRecursion}
use Rattle.dns_name.specs.Labels.{Labels}
use Rattle.dns_name.specs.Order.{name_eq}
use Rattle.dns_text.specs.declared.record.Question.{Question}
use Rattle.ranked.specs.declared.find.Find.{Find}
use Rattle.ranked.specs.declared.cell.Admitted.{Admitted}
use Rattle.change_law.specs.declared.kept.KeptChange.{KeptChange}
use Rattle.change_law.specs.declared.kept.Standing.{Standing}
use Rattle.change_law.specs.declared.kept.Standing.TheVariants.{Done, Undone, Cleared}
use Rattle.change_law.specs.Choice.{is_done, clear, cleared, turned as after_turn, IsPresent}
use Rattle.change_law.specs.Effect.{effect}
use Rattle.change_law.specs.declared.fault.WorldFault.TheVariants as world
use Rattle.change_law.specs.Face.{Face, IsSame, alive_at, face_with, face_without, fate_in}
use Rattle.change_law.specs.Row.{kept_as, with_change, IsRowAfter, IsRowFrom, IsSameRow, where_chosen, same_face, any}
use Rattle.ranked.specs.Find.{touches, admission_of}
use Rattle.ranked.specs.Cell.{after_admission}
use Rattle.cell_store.specs.Sweep.{alive_at as stored_alive}
use Rattle.shelf.specs.declared.fault.StoreFault.{StoreFault}
use Rattle.shelf.specs.declared.fault.StoreFault.TheVariants as store
use Rattle.shelf.specs.declared.shelf.KeptFlush.{KeptFlush}
use Rattle.std.specs.Prelude.{Result, Ok, Err, OnErr}
use Rattle.ranked.specs.declared.find.Scope.{Scope}
use Rattle.ranked.specs.declared.find.Scope.TheVariants.{One, Whole}
use Rattle.shelf.specs.declared.shelf.Shelf.{Shelf}
use Rattle.shelf.specs.Room.{fate_of}
use Rattle.shelf.specs.Kept.{with_shown, stands_first, turned_over}
use Rattle.ranked.specs.Flush.{covers}
use Rattle.shelf.specs.Told.{IsShelfOf, is_version, later_shown, later_chosen, chosen_version, shown_version, IsAscending, without}
use Rattle.store.specs.declared.world.SavedFlush.{SavedFlush}
use Rattle.store.specs.World.{Shelved, shelved, cell_at, cell_by, mark_of, mark, KeepsFlushes, face_by, shown_face, fault_told, empty_cells}

-- ---- lists

map_more : {A B : Type 0} (f : A → B) (xs : List A) (x : A) → map f (xs ++ x ∷ []) ≡ map f xs ++ f x ∷ []
map_more f [] x = refl
map_more f (y ∷ xs) x = ap (λ l. f y ∷ l) (map_more f xs x)

all_more : {A : Type 0} (P : A → Type 0) (xs : List A) (x : A) → AllByRecursion P xs → P x → AllByRecursion P (xs ++ x ∷ [])
all_more P [] x h here = (here, tt)
all_more P (y ∷ xs) x h here = (h.0, all_more P xs x h.1 here)

all_replaced : {A : Type 0} (P : A → Type 0) (earlier : List A) (x y : A) (later : List A) → (P x → P y) → AllByRecursion P (earlier ++ x ∷ later) → AllByRecursion P (earlier ++ y ∷ later)
all_replaced P [] x y later step h = (step h.0, h.1)
all_replaced P (e ∷ earlier) x y later step h = (h.0, all_replaced P earlier x y later step h.1)

all_without : {A : Type 0} (P : A → Type 0) (earlier : List A) (x : A) (later : List A) → AllByRecursion P (earlier ++ x ∷ later) → AllByRecursion P (earlier ++ later)
all_without P [] x later h = h.1
all_without P (e ∷ earlier) x later h = (h.0, all_without P earlier x later h.1)

all_here : {A : Type 0} (P : A → Type 0) (earlier : List A) (x : A) (later : List A) → AllByRecursion P (earlier ++ x ∷ later) → P x
all_here P [] x later h = h.0
all_here P (e ∷ earlier) x later h = all_here P earlier x later h.1

-- ---- what is cleared

done_cleared : (s : Standing) → is_done (clear s) ≡ is_done s
done_cleared Done = refl
done_cleared Undone = refl
done_cleared Cleared = refl

marks_cleared : (kept : List (KeptChange SavedFlush)) → map mark_of (cleared kept) ≡ map mark_of kept
marks_cleared [] = refl
marks_cleared (k ∷ kept) =
    ap (λ (b : Bool). (k.ticket, b) ∷ map mark_of (cleared kept)) (done_cleared k.standing)
    ∙ ap (λ l. mark_of k ∷ l) (marks_cleared kept)

numbers_cleared : (kept : List (KeptChange SavedFlush)) → AllByRecursion (λ k. k.saved.number ≡ k.ticket) kept → AllByRecursion (λ k. k.saved.number ≡ k.ticket) (cleared kept)
numbers_cleared [] h = tt
numbers_cleared (k ∷ kept) h = (h.0, numbers_cleared kept h.1)

keeps_cleared : (shelf : Shelved) (kept : List (KeptChange SavedFlush)) → KeepsFlushes shelf kept → KeepsFlushes shelf (cleared kept)
keeps_cleared shelf kept h = record { agree = marks_cleared kept ∙ h.agree; numbers = numbers_cleared kept h.numbers }

pub clears_by_word : (shelf : Shelved) (kept : List (KeptChange SavedFlush)) → KeepsFlushes shelf kept → IsRowAfter (λ saved. None) KeepsFlushes face_by same_face any shelf kept shelf (cleared kept)
clears_by_word shelf kept h = record {
  keeps_left = keeps_cleared shelf kept h;
  faces = λ chosen p choice. record { tables = refl; cell = λ q. refl };
}

-- ---- what is shown

abbrev pub first_mark : List (ℕ × Bool) → ℕ × Bool
first_mark [] = (0, false)
first_mark (m ∷ ms) = m

abbrev pub rest : List (ℕ × Bool) → List (ℕ × Bool)
rest [] = []
rest (m ∷ ms) = ms

shown_fold : (q : Question) (chosen : ℕ → Bool) (v : ℕ) (kept : List (KeptChange SavedFlush)) (items : List KeptFlush) → map mark_of kept ≡ map mark items → IsPresent kept chosen →
    fold (later_chosen q chosen) v items ≡ fold (later_shown q) v items
shown_fold q chosen v [] [] e p = refl
shown_fold q chosen v [] (own ∷ items) e p = absurd cc
shown_fold q chosen v (k ∷ kept) [] e p = absurd cc
shown_fold q chosen v (k ∷ kept) (own ∷ items) e p =
    let here : (k.ticket, is_done k.standing) ≡ (own.number, own.shown) = ap first_mark e in
    let ticket : k.ticket ≡ own.number = ap (λ (m : ℕ × Bool). m.0) here in
    let stands : chosen own.number ≡ own.shown = ap chosen (sym ticket) ∙ (p.0 ∙ ap (λ (m : ℕ × Bool). m.1) here) in
    shown_fold q chosen (later_chosen q chosen v own) kept items (ap rest e) p.1
    ∙ ap (λ (b : Bool). fold (later_shown q) (if b && covers own.flush q then own.number else v) items) stands

pub shows_present : (shelf : Shelved) (kept : List (KeptChange SavedFlush)) (chosen : ℕ → Bool) → KeepsFlushes shelf kept → IsPresent kept chosen → IsSame (face_by shelf kept chosen) (shown_face shelf)
shows_present shelf kept chosen h p = record {
  tables = refl;
  cell = λ q. ap (λ v. cell_at shelf q v) (shown_fold q chosen 0 kept shelf.flushes h.agree p);
}

-- ---- a flush more

pub keeps_more : (before after : Shelved) (kept : List (KeptChange SavedFlush)) (own : KeptFlush) (saved : SavedFlush) → KeepsFlushes before kept →
    after.flushes ≡ before.flushes ++ own ∷ [] → own.shown ≡ true → saved.number ≡ own.number → KeepsFlushes after (with_change kept own.number saved)
keeps_more before after kept own saved h items stands number = record {
  agree =
      map_more mark_of (cleared kept) (kept_as Done own.number saved)
      ∙ (ap (λ l. l ++ (own.number, true) ∷ []) (marks_cleared kept ∙ h.agree)
      ∙ (ap (λ (b : Bool). map mark before.flushes ++ (own.number, b) ∷ []) (sym stands)
      ∙ (sym (map_more mark before.flushes own)
      ∙ ap (map mark) (sym items))));
  numbers = all_more (λ k. k.saved.number ≡ k.ticket) (cleared kept) (kept_as Done own.number saved) (numbers_cleared kept h.numbers) number;
}

same_effect : (b : Bool) (empties : Question → Bool) (face : Face (Unit {0})) (cells : Question → Option (Admitted Find)) →
    ((q : Question) → cells q ≡ (if b && empties q then None else face.cell q)) →
    IsSame (record { tables = tt; cell = cells }) (if b then effect (λ tables. tables) empties face else face)
same_effect true empties face cells h = record { tables = refl; cell = h }
same_effect false empties face cells h = record { tables = refl; cell = h }

pub flush_effect : (before after : Shelved) (kept : List (KeptChange SavedFlush)) (left : List (KeptChange SavedFlush)) (number : ℕ) (flush : Question → Bool) →
    ((chosen : ℕ → Bool) (q : Question) → cell_by after chosen q ≡ (if chosen number && flush q then None else cell_by before chosen q)) →
    (chosen : ℕ → Bool) → IsSame (face_by after left chosen) (if chosen number then effect (λ tables. tables) flush (face_by before kept chosen) else face_by before kept chosen)
flush_effect before after kept left number flush faces chosen =
    same_effect (chosen number) flush (face_by before kept chosen) (cell_by after chosen) (faces chosen)

-- ---- a flag

abbrev with_mark : ℕ → Bool → ℕ × Bool → ℕ × Bool
with_mark number shown m = (m.0, if m.0 == number then shown else m.1)

marks_shown : (number : ℕ) (shown : Bool) (items : List KeptFlush) → map mark (map (with_shown number shown) items) ≡ map (with_mark number shown) (map mark items)
marks_shown number shown [] = refl
marks_shown number shown (own ∷ items) = ap (λ l. with_mark number shown (mark own) ∷ l) (marks_shown number shown items)

abbrev AreAscending : List (ℕ × Bool) → Type 0
AreAscending [] = Unit {0}
AreAscending (m ∷ ms) = AllByRecursion (λ other. m.0 < other.0) ms × AreAscending ms

all_marks : (n : ℕ) (items : List KeptFlush) → AllByRecursion (λ own. n < own.number) items → AllByRecursion (λ m. n < m.0) (map mark items)
all_marks n [] h = tt
all_marks n (own ∷ items) h = (h.0, all_marks n items h.1)

ascending_marks : (items : List KeptFlush) → IsAscending items → AreAscending (map mark items)
ascending_marks [] h = tt
ascending_marks (own ∷ items) h = (all_marks own.number items h.0, ascending_marks items h.1)

ascending_kept : (shelf : Shelved) (kept : List (KeptChange SavedFlush)) → KeepsFlushes shelf kept → IsAscending shelf.flushes → AreAscending (map mark_of kept)
ascending_kept shelf kept h up = subst (λ (l : List (ℕ × Bool)). AreAscending l) (sym h.agree) (ascending_marks shelf.flushes up)

same_number : (n : ℕ) → (n == n) ≡ true
same_number n = grind (arith)

other_number : (a b : ℕ) → a ≢ b → (a == b) ≡ false
other_number a b h = grind (arith, h)

unmarked : (number : ℕ) (shown : Bool) (ms : List (ℕ × Bool)) → AllByRecursion (λ m. number < m.0) ms → map (with_mark number shown) ms ≡ ms
unmarked number shown [] h = refl
unmarked number shown (m ∷ ms) h =
    let differs : (m.0 == number) ≡ false = other_number m.0 number (λ e. absurd (omega (arith, e, h.0))) in
    ap (λ (b : Bool). (m.0, if b then shown else m.1) ∷ map (with_mark number shown) ms) differs
    ∙ ap (λ l. m ∷ l) (unmarked number shown ms h.1)

mark_here : (n : ℕ) (earlier : List (KeptChange SavedFlush)) (k : KeptChange SavedFlush) (later : List (KeptChange SavedFlush)) → AllByRecursion (λ m. n < m.0) (map mark_of (earlier ++ k ∷ later)) → n < k.ticket
mark_here n [] k later h = h.0
mark_here n (e ∷ earlier) k later h = mark_here n earlier k later h.1

turned : (from to : Standing) (number : ℕ) (saved : SavedFlush) (earlier later : List (KeptChange SavedFlush)) → AreAscending (map mark_of (earlier ++ kept_as from number saved ∷ later)) →
    map (with_mark number (is_done to)) (map mark_of (earlier ++ kept_as from number saved ∷ later)) ≡ map mark_of (earlier ++ kept_as to number saved ∷ later)
turned from to number saved [] later up =
    ap (λ (b : Bool). (number, if b then is_done to else is_done from) ∷ map (with_mark number (is_done to)) (map mark_of later)) (same_number number)
    ∙ ap (λ l. (number, is_done to) ∷ l) (unmarked number (is_done to) (map mark_of later) up.0)
turned from to number saved (e ∷ earlier) later up =
    let low = mark_here e.ticket earlier (kept_as from number saved) later up.0 in
    let differs : (e.ticket == number) ≡ false = other_number e.ticket number (λ same. absurd (omega (arith, same, low))) in
    ap (λ (b : Bool). (e.ticket, if b then is_done to else is_done e.standing) ∷ map (with_mark number (is_done to)) (map mark_of (earlier ++ kept_as from number saved ∷ later))) differs
    ∙ ap (λ l. mark_of e ∷ l) (turned from to number saved earlier later up.1)

-- ---- a flag that stands the other way

abbrev flip_mark : ℕ → ℕ × Bool → ℕ × Bool
flip_mark number m = (m.0, if m.0 == number then not m.1 else m.1)

marks_flipped : (number : ℕ) (items : List KeptFlush) → map mark (map (turned_over number) items) ≡ map (flip_mark number) (map mark items)
marks_flipped number [] = refl
marks_flipped number (own ∷ items) = ap (λ l. flip_mark number (mark own) ∷ l) (marks_flipped number items)

unflipped : (number : ℕ) (ms : List (ℕ × Bool)) → AllByRecursion (λ m. number < m.0) ms → map (flip_mark number) ms ≡ ms
unflipped number [] h = refl
unflipped number (m ∷ ms) h =
    let differs : (m.0 == number) ≡ false = other_number m.0 number (λ e. absurd (omega (arith, e, h.0))) in
    ap (λ (b : Bool). (m.0, if b then not m.1 else m.1) ∷ map (flip_mark number) ms) differs
    ∙ ap (λ l. m ∷ l) (unflipped number ms h.1)

flipped : (from to : Standing) (number : ℕ) (saved : SavedFlush) (earlier later : List (KeptChange SavedFlush)) → not (is_done from) ≡ is_done to →
    AreAscending (map mark_of (earlier ++ kept_as from number saved ∷ later)) →
    map (flip_mark number) (map mark_of (earlier ++ kept_as from number saved ∷ later)) ≡ map mark_of (earlier ++ kept_as to number saved ∷ later)
flipped from to number saved [] later other up =
    ap (λ (b : Bool). (number, if b then not (is_done from) else is_done from) ∷ map (flip_mark number) (map mark_of later)) (same_number number)
    ∙ (ap (λ (b : Bool). (number, b) ∷ map (flip_mark number) (map mark_of later)) other
    ∙ ap (λ l. (number, is_done to) ∷ l) (unflipped number (map mark_of later) up.0))
flipped from to number saved (e ∷ earlier) later other up =
    let low = mark_here e.ticket earlier (kept_as from number saved) later up.0 in
    let differs : (e.ticket == number) ≡ false = other_number e.ticket number (λ same. absurd (omega (arith, same, low))) in
    ap (λ (b : Bool). (e.ticket, if b then not (is_done e.standing) else is_done e.standing) ∷ map (flip_mark number) (map mark_of (earlier ++ kept_as from number saved ∷ later))) differs
    ∙ ap (λ l. mark_of e ∷ l) (flipped from to number saved earlier later other up.1)

-- a choice does not read the flags
chosen_flipped : (q : Question) (chosen : ℕ → Bool) (number v : ℕ) (items : List KeptFlush) → fold (later_chosen q chosen) v items ≡ fold (later_chosen q chosen) v (map (turned_over number) items)
chosen_flipped q chosen number v [] = refl
chosen_flipped q chosen number v (own ∷ items) = chosen_flipped q chosen number (later_chosen q chosen v own) items

pub other_done : (from : Standing) → from ≢ Cleared → not (is_done from) ≡ is_done (after_turn from)
other_done Done live = refl
other_done Undone live = refl
other_done Cleared live = absurd (live refl)

-- The choice in which one flush alone stands the other way gives the version that is in force if its flag is turned over.
pub version_over : (from to : Standing) (shelf : Shelved) (earlier : List (KeptChange SavedFlush)) (ticket : ℕ) (saved : SavedFlush) (later : List (KeptChange SavedFlush)) (chosen : ℕ → Bool) (q : Question) →
    not (is_done from) ≡ is_done to → IsAscending shelf.flushes → KeepsFlushes shelf (earlier ++ kept_as from ticket saved ∷ later) → IsPresent (earlier ++ kept_as to ticket saved ∷ later) chosen →
    shown_version (map (turned_over saved.number) shelf.flushes) q ≡ chosen_version shelf.flushes q chosen
version_over from to shelf earlier ticket saved later chosen q other up h present =
    let number : saved.number ≡ ticket = all_here (λ k. k.saved.number ≡ k.ticket) earlier (kept_as from ticket saved) later h.numbers in
    let turned_is : map mark_of (earlier ++ kept_as to ticket saved ∷ later) ≡ map mark (map (turned_over ticket) shelf.flushes)
    = sym (flipped from to ticket saved earlier later other (ascending_kept shelf (earlier ++ kept_as from ticket saved ∷ later) h up))
    ∙ (ap (map (flip_mark ticket)) h.agree ∙ sym (marks_flipped ticket shelf.flushes)) in
    ap (λ n. shown_version (map (turned_over n) shelf.flushes) q) number
    ∙ (sym (shown_fold q chosen 0 (earlier ++ kept_as to ticket saved ∷ later) (map (turned_over ticket) shelf.flushes) turned_is present)
    ∙ sym (chosen_flipped q chosen ticket 0 shelf.flushes))

-- One flush is done or undone: a flag of the shelf is set.
pub row_turned : (from to : Standing) (before after : Shelved) (earlier : List (KeptChange SavedFlush)) (ticket : ℕ) (saved : SavedFlush) (later : List (KeptChange SavedFlush)) →
    IsAscending before.flushes → KeepsFlushes before (earlier ++ kept_as from ticket saved ∷ later) →
    after.flushes ≡ map (with_shown saved.number (is_done to)) before.flushes →
    ((chosen : ℕ → Bool) (q : Question) → cell_by after chosen q ≡ cell_by before chosen q) →
    IsRowAfter (λ saved. None) KeepsFlushes face_by same_face any before (earlier ++ kept_as from ticket saved ∷ later) after (earlier ++ kept_as to ticket saved ∷ later)
row_turned from to before after earlier ticket saved later up h items faces =
    let number : saved.number ≡ ticket = all_here (λ k. k.saved.number ≡ k.ticket) earlier (kept_as from ticket saved) later h.numbers in
    record {
      keeps_left = record {
        agree = sym (turned from to ticket saved earlier later (ascending_kept before (earlier ++ kept_as from ticket saved ∷ later) h up))
            ∙ (ap (map (with_mark ticket (is_done to))) h.agree
            ∙ (sym (marks_shown ticket (is_done to) before.flushes)
            ∙ (ap (λ n. map mark (map (with_shown n (is_done to)) before.flushes)) (sym number)
            ∙ ap (map mark) (sym items))));
        numbers = all_replaced (λ k. k.saved.number ≡ k.ticket) earlier (kept_as from ticket saved) (kept_as to ticket saved) later (λ same. same) h.numbers;
      };
      faces = λ chosen p choice. record { tables = refl; cell = λ q. faces chosen q };
    }

-- ---- a flush less

abbrev without_mark : ℕ → List (ℕ × Bool) → List (ℕ × Bool)
without_mark number [] = []
without_mark number (m ∷ ms) = if m.0 == number then ms else m ∷ without_mark number ms

map_cond : {A B : Type 0} (f : List A → B) (b : Bool) (xs ys : List A) → f (if b then xs else ys) ≡ (if b then f xs else f ys)
map_cond f true xs ys = refl
map_cond f false xs ys = refl

marks_without : (number : ℕ) (items : List KeptFlush) → map mark (without number items) ≡ without_mark number (map mark items)
marks_without number [] = refl
marks_without number (own ∷ items) =
    map_cond (map mark) (own.number == number) items (own ∷ without number items)
    ∙ ap (λ l. if own.number == number then map mark items else mark own ∷ l) (marks_without number items)

without_here : (standing : Standing) (number : ℕ) (saved : SavedFlush) (earlier later : List (KeptChange SavedFlush)) → AreAscending (map mark_of (earlier ++ kept_as standing number saved ∷ later)) →
    without_mark number (map mark_of (earlier ++ kept_as standing number saved ∷ later)) ≡ map mark_of (earlier ++ later)
without_here standing number saved [] later up =
    ap (λ (b : Bool). if b then map mark_of later else (number, is_done standing) ∷ without_mark number (map mark_of later)) (same_number number)
without_here standing number saved (e ∷ earlier) later up =
    let low = mark_here e.ticket earlier (kept_as standing number saved) later up.0 in
    let differs : (e.ticket == number) ≡ false = other_number e.ticket number (λ same. absurd (omega (arith, same, low))) in
    ap (λ (b : Bool). if b then map mark_of (earlier ++ kept_as standing number saved ∷ later) else mark_of e ∷ without_mark number (map mark_of (earlier ++ kept_as standing number saved ∷ later))) differs
    ∙ ap (λ l. mark_of e ∷ l) (without_here standing number saved earlier later up.1)

-- A flush is kept no more.
pub row_less : (standing : Standing) (P : (ℕ → Bool) → Type 0) (before after : Shelved) (earlier : List (KeptChange SavedFlush)) (ticket : ℕ) (saved : SavedFlush) (later : List (KeptChange SavedFlush)) →
    IsAscending before.flushes → KeepsFlushes before (earlier ++ kept_as standing ticket saved ∷ later) →
    after.flushes ≡ without saved.number before.flushes →
    ((chosen : ℕ → Bool) → P chosen → (q : Question) → cell_by after chosen q ≡ cell_by before chosen q) →
    IsRowAfter (λ saved. None) KeepsFlushes face_by same_face P before (earlier ++ kept_as standing ticket saved ∷ later) after (earlier ++ later)
row_less standing P before after earlier ticket saved later up h items faces =
    let number : saved.number ≡ ticket = all_here (λ k. k.saved.number ≡ k.ticket) earlier (kept_as standing ticket saved) later h.numbers in
    record {
      keeps_left = record {
        agree = sym (without_here standing ticket saved earlier later (ascending_kept before (earlier ++ kept_as standing ticket saved ∷ later) h up))
            ∙ (ap (without_mark ticket) h.agree
            ∙ (sym (marks_without ticket before.flushes)
            ∙ (ap (λ n. map mark (without n before.flushes)) (sym number)
            ∙ ap (map mark) (sym items))));
        numbers = all_without (λ k. k.saved.number ≡ k.ticket) earlier (kept_as standing ticket saved) later h.numbers;
      };
      faces = λ chosen p choice. record { tables = refl; cell = λ q. faces chosen p q };
    }

-- ---- the oldest

and_false : (b : Bool) → (b && false) ≡ false
and_false true = refl
and_false false = refl

first_other : (items : List KeptFlush) (ticket : ℕ) (shown : Bool) (number other : ℕ) (ms : List (ℕ × Bool)) → (ticket, shown) ∷ ms ≡ map mark items → number ≡ other →
    stands_first number items ≡ (ticket == other && shown)
first_other [] ticket shown number other ms e same = absurd cc
first_other (own ∷ items) ticket shown number other ms e same =
    let here : (ticket, shown) ≡ (own.number, own.shown) = ap first_mark e in
    ap (λ n. own.number == n && own.shown) same
    ∙ sym (ap (λ (m : ℕ × Bool). m.0 == other && m.1) here)

first_of : (items : List KeptFlush) (ticket : ℕ) (shown : Bool) (number : ℕ) (ms : List (ℕ × Bool)) → (ticket, shown) ∷ ms ≡ map mark items → number ≡ ticket →
    stands_first number items ≡ (ticket == ticket && shown)
first_of items ticket shown number ms e same = first_other items ticket shown number ticket ms e same

pub first_stands : (shelf : Shelved) (ticket : ℕ) (saved : SavedFlush) (later : List (KeptChange SavedFlush)) → KeepsFlushes shelf (kept_as Done ticket saved ∷ later) → stands_first saved.number shelf.flushes ≡ true
first_stands shelf ticket saved later h =
    first_of shelf.flushes ticket true saved.number (map mark_of later) h.agree h.numbers.0 ∙ ap (λ (b : Bool). b && true) (same_number ticket)

pub first_cleared : (shelf : Shelved) (earlier : List (KeptChange SavedFlush)) (ticket : ℕ) (saved : SavedFlush) (later : List (KeptChange SavedFlush)) → IsAscending shelf.flushes →
    KeepsFlushes shelf (earlier ++ kept_as Cleared ticket saved ∷ later) → stands_first saved.number shelf.flushes ≡ false
first_cleared shelf [] ticket saved later up h =
    first_of shelf.flushes ticket false saved.number (map mark_of later) h.agree h.numbers.0 ∙ and_false (ticket == ticket)
first_cleared shelf (e ∷ earlier) ticket saved later up h =
    let low = mark_here e.ticket earlier (kept_as Cleared ticket saved) later (ascending_kept shelf (e ∷ earlier ++ kept_as Cleared ticket saved ∷ later) h up).0 in
    let number : saved.number ≡ ticket = all_here (λ k. k.saved.number ≡ k.ticket) (e ∷ earlier) (kept_as Cleared ticket saved) later h.numbers in
    let differs : (e.ticket == ticket) ≡ false = other_number e.ticket ticket (λ same. absurd (omega (arith, same, low))) in
    first_other shelf.flushes e.ticket (is_done e.standing) saved.number ticket (map mark_of (earlier ++ kept_as Cleared ticket saved ∷ later)) h.agree number
    ∙ ap (λ (b : Bool). b && is_done e.standing) differs

-- The oldest stands for ever.
pub row_oldest : (before after : Shelved) (ticket : ℕ) (saved : SavedFlush) (later : List (KeptChange SavedFlush)) →
    IsAscending before.flushes → KeepsFlushes before (kept_as Done ticket saved ∷ later) →
    after.flushes ≡ without saved.number before.flushes →
    ((chosen : ℕ → Bool) → chosen saved.number ≡ stands_first saved.number before.flushes → (q : Question) → cell_by after chosen q ≡ cell_by before chosen q) →
    IsRowAfter (λ saved. None) KeepsFlushes face_by same_face (λ chosen. chosen ticket ≡ true) before (kept_as Done ticket saved ∷ later) after later
row_oldest before after ticket saved later up h items faces =
    row_less Done (λ chosen. chosen ticket ≡ true) before after [] ticket saved later up h items
    (λ chosen p. faces chosen (ap chosen h.numbers.0 ∙ (p ∙ sym (first_stands before ticket saved later h))))

-- A cleared one is never in force again.
pub row_cleared : (before after : Shelved) (earlier : List (KeptChange SavedFlush)) (ticket : ℕ) (saved : SavedFlush) (later : List (KeptChange SavedFlush)) →
    IsAscending before.flushes → KeepsFlushes before (earlier ++ kept_as Cleared ticket saved ∷ later) →
    after.flushes ≡ without saved.number before.flushes →
    ((chosen : ℕ → Bool) → chosen saved.number ≡ stands_first saved.number before.flushes → (q : Question) → cell_by after chosen q ≡ cell_by before chosen q) →
    IsRowAfter (λ saved. None) KeepsFlushes face_by same_face (λ chosen. chosen ticket ≡ false) before (earlier ++ kept_as Cleared ticket saved ∷ later) after (earlier ++ later)
row_cleared before after earlier ticket saved later up h items faces =
    row_less Cleared (λ chosen. chosen ticket ≡ false) before after earlier ticket saved later up h items
    (λ chosen p. faces chosen (ap chosen (all_here (λ k. k.saved.number ≡ k.ticket) earlier (kept_as Cleared ticket saved) later h.numbers) ∙ (p ∙ sym (first_cleared before earlier ticket saved later up h))))

-- ---- what acts on each face by itself

pub keeps_same : (before after : Shelved) (kept : List (KeptChange SavedFlush)) → after.flushes ≡ before.flushes → KeepsFlushes before kept → KeepsFlushes after kept
keeps_same before after kept items h = record { agree = h.agree ∙ ap (map mark) (sym items); numbers = h.numbers }

pub row_same : (before after : Shelved) → after.flushes ≡ before.flushes → ((chosen : ℕ → Bool) (q : Question) → cell_by after chosen q ≡ cell_by before chosen q) →
    IsSameRow (λ saved. None) KeepsFlushes face_by before after
row_same before after items faces = λ kept h. record {
  keeps_left = keeps_same before after kept items h;
  faces = λ chosen p choice. record { tables = refl; cell = λ q. faces chosen q };
}

pub row_admitted : (before after : Shelved) (kept : List (KeptChange SavedFlush)) (find : Find) (moment : ℕ) → KeepsFlushes before kept → after.flushes ≡ before.flushes →
    ((chosen : ℕ → Bool) (q : Question) → cell_by after chosen q ≡ (if touches find q then after_admission (cell_by before chosen q) (admission_of find find moment) else cell_by before chosen q)) →
    IsRowFrom (λ saved. None) KeepsFlushes face_by moment (face_with true find moment) before kept after
row_admitted before after kept find moment h items faces = record {
  keeps_still = keeps_same before after kept items h;
  faces = λ chosen choice. record { tables = refl; cell = λ q. ap (alive_at moment) (faces chosen q) };
}

pub same_alive : (t : ℕ) (cell : Option (Admitted Find)) → alive_at t cell ≡ stored_alive t cell
same_alive t None = refl
same_alive t (Some held) = refl

pub row_swept : (before after : Shelved) (kept : List (KeptChange SavedFlush)) (moment : ℕ) → KeepsFlushes before kept → after.flushes ≡ before.flushes →
    ((chosen : ℕ → Bool) (q : Question) → stored_alive moment (cell_by after chosen q) ≡ stored_alive moment (cell_by before chosen q)) →
    IsRowFrom (λ saved. None) KeepsFlushes face_by moment (λ face. face) before kept after
row_swept before after kept moment h items faces = record {
  keeps_still = keeps_same before after kept items h;
  faces = λ chosen choice. record {
    tables = refl;
    cell = λ q. same_alive moment (cell_by after chosen q) ∙ (faces chosen q ∙ sym (same_alive moment (cell_by before chosen q)));
  };
}

pub row_forgot : (before after : Shelved) (kept : List (KeptChange SavedFlush)) (owner : Labels) → KeepsFlushes before kept → after.flushes ≡ before.flushes →
    ((chosen : ℕ → Bool) (q : Question) → cell_by after chosen q ≡ (if name_eq owner q.owner then None else cell_by before chosen q)) →
    IsRowAfter (λ saved. None) KeepsFlushes face_by (λ chosen. face_without true owner) any before kept after kept
row_forgot before after kept owner h items faces = record {
  keeps_left = keeps_same before after kept items h;
  faces = λ chosen p choice. record { tables = refl; cell = λ q. faces chosen q };
}

-- A flush more.
pub row_more : (before after : Shelved) (kept : List (KeptChange SavedFlush)) (own : KeptFlush) (saved : SavedFlush) → KeepsFlushes before kept →
    after.flushes ≡ before.flushes ++ own ∷ [] → own.shown ≡ true → saved.number ≡ own.number → ((chosen : ℕ → Bool) (q : Question) → cell_by after chosen q ≡ (if chosen own.number && covers own.flush q then None else cell_by before chosen q)) →
    IsRowAfter (λ saved. None) KeepsFlushes face_by (where_chosen own.number (effect (λ tables. tables) (covers own.flush))) any before kept after (with_change kept own.number saved)
row_more before after kept own saved h items stands number faces = record {
  keeps_left = keeps_more before after kept own saved h items stands number;
  faces = λ chosen p choice. flush_effect before after kept (with_change kept own.number saved) own.number (covers own.flush) faces chosen;
}

pub full_told : (fault : StoreFault) (n : ℕ) → fault_told fault ≡ world.Full n → fault ≡ store.Full n
full_told (store.Full stored) n e = cc
full_told store.NoMemory n e = absurd cc

-- ---- the fate of a find

pub same_fate : (shelf : Shelf) (find : Find) (moment : ℕ) (scope : Scope) → fate_of shelf find moment scope ≡ fate_in (shown_face (shelved shelf)) find moment scope
same_fate shelf find moment (One kind) = refl
same_fate shelf find moment Whole = refl

pub on_err : {A E P : Type 0} (r : Result A E) → P → OnErr r P
on_err (Ok x) p = tt
on_err (Err e) p = p

-- ---- an empty shelf

empty_cell : (shelf : Shelf) (kept : List KeptFlush) (chosen : ℕ → Bool) (q : Question) → kept ≡ [] → ((v : ℕ) → is_version kept q v ≡ true → cell_at (shelved shelf) q v ≡ None) →
    cell_at (shelved shelf) q (chosen_version kept q chosen) ≡ None
empty_cell shelf [] chosen q e cells = cells 0 refl
empty_cell shelf (own ∷ later) chosen q e cells = absurd cc

pub empty_faces : (shelf : Shelf) → shelf.kept.items ≡ [] → IsShelfOf shelf [] → (chosen : ℕ → Bool) → IsSame (face_by (shelved shelf) [] chosen) empty_cells
empty_faces shelf kept is chosen = record { tables = refl; cell = λ q. empty_cell shelf shelf.kept.items chosen q kept (is q) }
