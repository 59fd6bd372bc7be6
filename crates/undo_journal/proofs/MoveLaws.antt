-- An undo and a redo at one place: the journal stays what it is.
use Rattle.std.proofs.Common.{◌≡◌, ◌≢◌, inl, inr, ℕ, ◌+◌, ◌-◌, ◌<◌, ◌≤◌, Bool, true, false, Option, Some, None, List, [], ◌∷◌, ◌++◌, length, refl, sym, ap, subst, ◌∙◌, arith, length-append}
use Rattle.std.specs.Prelude.{not, ◌==◌, ◌||◌, if◌then◌else◌}
use Rattle.std.specs.List.{AllByRecursion}
use Rattle.std.proofs.lemmas.Bool.{cases_Bool, false≢true}
use Rattle.dns_name.specs.ListLaws.{all-append, all_split, all_weaker}
use Rattle.change_law.specs.declared.kept.KeptChange.{KeptChange}
use Rattle.change_law.specs.declared.kept.Standing.{Standing}
use Rattle.change_law.specs.declared.kept.Standing.TheVariants.{Done, Undone, Cleared}
use Rattle.change_law.specs.Choice.{IsFounded, IsOneTable, IsUncovered, is_done, IsClear, passed, turned}
use Rattle.change_law.specs.ChoiceLaws.{same_number, other_number}
use Rattle.undo_journal.specs.Journal.{AreAscending, AreChanges, AreDifferent, AreInTurn, HasTurned, IsClosed, in_effect, is_among, is_before, out_of_effect, standing_in, standings_of, standings_with, tickets_of, turnable, undone_with, without}
use Rattle.undo_journal.proofs.RingLaws.{Done≢Undone, Undone≢Done, all_back, all_both, all_filter, among_push_here, among_push_other, among_without_here, among_without_other, before_last, before_push, before_without, different_push, different_without, last_before_none, length_without, or_left, or_right}

-- ---- standings

pub standing_done : (b : Bool) → (if b then Undone else Done) ≡ Done → b ≡ false
standing_done true e = absurd (Undone≢Done e)
standing_done false e = refl

pub standing_undone : (b : Bool) → (if b then Undone else Done) ≡ Undone → b ≡ true
standing_undone true e = refl
standing_undone false e = absurd (Done≢Undone e)

pub done_standing : (s : Standing) → is_done s ≡ true → s ≡ Done
done_standing Done e = refl
done_standing Undone e = absurd (false≢true e)
done_standing Cleared e = absurd (false≢true e)

pub one_table_turned : (a b : Option ℕ) → IsOneTable a b → IsOneTable b a
one_table_turned (Some a) (Some b) h = sym h
one_table_turned (Some a) None h = h
one_table_turned None (Some b) h = h
one_table_turned None None h = h

pub one_table_as : (a a' b : Option ℕ) → a' ≡ a → IsOneTable a' b → IsOneTable a b
one_table_as a a' b e h = subst (λ (x : Option ℕ). IsOneTable x b) e h

pub one_table_to : (a b b' : Option ℕ) → b' ≡ b → IsOneTable a b' → IsOneTable a b
one_table_to a b b' e h = subst (λ (x : Option ℕ). IsOneTable a x) e h

-- ---- in the order of tickets

less_other : (t u : ℕ) → t < u → (u == t) ≡ false
less_other t u less = other_number u t (λ same. omega (arith, less, same))

more_other : (t u : ℕ) → u < t → (u == t) ≡ false
more_other t u less = other_number u t (λ same. omega (arith, less, same))

module _ {S : Type 0} where
  pub asc_before : (earlier : List (KeptChange S)) (k : KeptChange S) (later : List (KeptChange S)) → AreAscending (tickets_of (earlier ++ k ∷ later)) →
      AllByRecursion (λ x. x.ticket < k.ticket) earlier
  asc_before [] k later h = tt
  asc_before (x ∷ earlier) k later h = (
    (all_split (λ (y : KeptChange S). x.ticket < y.ticket) earlier (k ∷ later) (all_back (λ (y : KeptChange S). y.ticket) (λ t. x.ticket < t) (earlier ++ k ∷ later) h.0)).1.0,
    asc_before earlier k later h.1,
  )

  pub asc_after : (earlier : List (KeptChange S)) (k : KeptChange S) (later : List (KeptChange S)) → AreAscending (tickets_of (earlier ++ k ∷ later)) →
      AllByRecursion (λ x. k.ticket < x.ticket) later
  asc_after [] k later h = all_back (λ (y : KeptChange S). y.ticket) (λ t. k.ticket < t) later h.0
  asc_after (x ∷ earlier) k later h = asc_after earlier k later h.1

  pub others_before : (earlier : List (KeptChange S)) (k : KeptChange S) (later : List (KeptChange S)) → AreAscending (tickets_of (earlier ++ k ∷ later)) →
      AllByRecursion (λ x. (x.ticket == k.ticket) ≡ false) earlier
  others_before earlier k later h = all_weaker (λ x. x.ticket < k.ticket) (λ x. (x.ticket == k.ticket) ≡ false) (λ x less. more_other k.ticket x.ticket less) earlier (asc_before earlier k later h)

  pub others_after : (earlier : List (KeptChange S)) (k : KeptChange S) (later : List (KeptChange S)) → AreAscending (tickets_of (earlier ++ k ∷ later)) →
      AllByRecursion (λ x. (x.ticket == k.ticket) ≡ false) later
  others_after earlier k later h = all_weaker (λ x. k.ticket < x.ticket) (λ x. (x.ticket == k.ticket) ≡ false) (λ x less. less_other k.ticket x.ticket less) later (asc_after earlier k later h)

  pub among_here : (earlier : List (KeptChange S)) (k : KeptChange S) (later : List (KeptChange S)) → is_among (tickets_of (earlier ++ k ∷ later)) k.ticket ≡ true
  among_here [] k later = or_left (k.ticket == k.ticket) (is_among (tickets_of later) k.ticket) (same_number k.ticket)
  among_here (x ∷ earlier) k later = or_right (x.ticket == k.ticket) (is_among (tickets_of (earlier ++ k ∷ later)) k.ticket) (among_here earlier k later)

  pub done_here : (earlier : List (KeptChange S)) (k : KeptChange S) (later : List (KeptChange S)) → is_done k.standing ≡ true →
      is_among (tickets_of (in_effect (earlier ++ k ∷ later))) k.ticket ≡ true
  done_here [] k later e = rw e (or_left (k.ticket == k.ticket) (is_among (tickets_of (in_effect later)) k.ticket) (same_number k.ticket))
  done_here (x ∷ earlier) k later e =
      elim (cases_Bool (is_done x.standing)) [
        | inl yes' ↦ rw yes' (or_right (x.ticket == k.ticket) (is_among (tickets_of (in_effect (earlier ++ k ∷ later))) k.ticket) (done_here earlier k later e))
        | inr no' ↦ rw no' (done_here earlier k later e)
      ]

  pub not_done_twice : (k : KeptChange S) → k.standing ≡ Undone → is_done k.standing ≡ false
  not_done_twice k e = ap is_done e

  with_absent : (ticket : ℕ) (s : Standing) (kept : List (KeptChange S)) → AllByRecursion (λ x. (x.ticket == ticket) ≡ false) kept → standings_with ticket s (standings_of kept) ≡ standings_of kept
  with_absent ticket s [] h = refl
  with_absent ticket s (x ∷ kept) h = ap (λ (y : Standing). (x.ticket, y) ∷ standings_with ticket s (standings_of kept)) (ap (λ (b : Bool). if b then s else x.standing) h.0) ∙ ap (λ l. (x.ticket, x.standing) ∷ l) (with_absent ticket s kept h.1)

  -- the standings, when that of one place has changed
  pub with_here : (earlier : List (KeptChange S)) (k k' : KeptChange S) (later : List (KeptChange S)) → k'.ticket ≡ k.ticket → AreAscending (tickets_of (earlier ++ k ∷ later)) →
      standings_of (earlier ++ k' ∷ later) ≡ standings_with k.ticket k'.standing (standings_of (earlier ++ k ∷ later))
  with_here [] k k' later t h =
      ap (λ n. (n, k'.standing) ∷ standings_of later) t
      ∙ ap (λ (y : Standing). (k.ticket, y) ∷ standings_of later) (sym (ap (λ (b : Bool). if b then k'.standing else k.standing) (same_number k.ticket)))
      ∙ ap (λ l. (k.ticket, if k.ticket == k.ticket then k'.standing else k.standing) ∷ l) (sym (with_absent k.ticket k'.standing later (others_after [] k later h)))
  with_here (x ∷ earlier) k k' later t h =
      ap (λ l. (x.ticket, x.standing) ∷ l) (with_here earlier k k' later t h.1)
      ∙ ap (λ (y : Standing). (x.ticket, y) ∷ standings_with k.ticket k'.standing (standings_of (earlier ++ k ∷ later)))
      (sym (ap (λ (b : Bool). if b then k'.standing else x.standing) (others_before (x ∷ earlier) k later h).0))

  -- ---- how many are not in effect

  pub out_more : (earlier : List (KeptChange S)) (k k' : KeptChange S) (later : List (KeptChange S)) → is_done k.standing ≡ true → is_done k'.standing ≡ false →
      length (out_of_effect (earlier ++ k' ∷ later)) ≡ length (out_of_effect (earlier ++ k ∷ later)) + 1
  out_more [] k k' later e e' = rw (e, e') (omega arith)
  out_more (x ∷ earlier) k k' later e e' =
      elim (cases_Bool (is_done x.standing)) [
        | inl yes' ↦ rw yes' (out_more earlier k k' later e e')
        | inr no' ↦ rw no' (omega (arith, out_more earlier k k' later e e'))
      ]

  pub out_few : (kept : List (KeptChange S)) → length (out_of_effect kept) ≤ length kept
  out_few [] = omega arith
  out_few (x ∷ kept) = elim (cases_Bool (is_done x.standing)) [ inl yes' ↦ rw yes' (omega (arith, out_few kept)) | inr no' ↦ rw no' (omega (arith, out_few kept)) ]

  pub out_less : (earlier : List (KeptChange S)) (k : KeptChange S) (later : List (KeptChange S)) → is_done k.standing ≡ true →
      length (out_of_effect (earlier ++ k ∷ later)) < length (earlier ++ k ∷ later)
  out_less [] k later e = rw e (omega (arith, out_few later))
  out_less (x ∷ earlier) k later e =
      elim (cases_Bool (is_done x.standing)) [
        | inl yes' ↦ rw yes' (omega (arith, out_less earlier k later e))
        | inr no' ↦ rw no' (omega (arith, out_less earlier k later e))
      ]

-- ---- one place changes

module _ {S : Type 0} (table : S → Option ℕ) (k k' : KeptChange S) (t : k'.ticket ≡ k.ticket) (e : table k'.saved ≡ table k.saved) where
  pub same_tickets : (earlier later : List (KeptChange S)) → tickets_of (earlier ++ k' ∷ later) ≡ tickets_of (earlier ++ k ∷ later)
  same_tickets [] later = ap (λ n. n ∷ tickets_of later) t
  same_tickets (x ∷ earlier) later = ap (λ l. x.ticket ∷ l) (same_tickets earlier later)

  -- the journal with another change at the place, and with another list of the undone
  with_other : (earlier later : List (KeptChange S)) (undone undone' : List ℕ) (tickets limit : ℕ) →
      AreChanges table (record { kept = earlier ++ k ∷ later; undone = undone; tickets = tickets; limit = limit }) →
      ((x : KeptChange S) → (x.ticket == k.ticket) ≡ false → x.standing ≡ standing_in undone x.ticket → x.standing ≡ standing_in undone' x.ticket) → k'.standing ≡ standing_in undone' k.ticket →
      AllByRecursion (λ n. is_among (tickets_of (earlier ++ k ∷ later)) n ≡ true) undone' → AreDifferent undone' → IsClosed table (earlier ++ k' ∷ later) → AreInTurn table undone' (earlier ++ k' ∷ later) →
      length undone' ≤ length (out_of_effect (earlier ++ k' ∷ later)) →
      AreChanges table (record { kept = earlier ++ k' ∷ later; undone = undone'; tickets = tickets; limit = limit })
  with_other earlier later undone undone' tickets limit are others own known once closed in_turn fits =
      let up = are.ascending in
      let given = all_split (λ x. x.ticket ≤ tickets) earlier (k ∷ later) are.given in
      let st = all_split (λ x. x.standing ≡ standing_in undone x.ticket) earlier (k ∷ later) are.standings in
      let same = same_tickets earlier later in
      record {
        ascending = subst AreAscending (sym same) up;
        given = all-append _ earlier (k' ∷ later) given.0 (subst (λ n. n ≤ tickets) (sym t) given.1.0, given.1.1);
        standings = all-append _ earlier (k' ∷ later)
            (all_both (λ x. (x.ticket == k.ticket) ≡ false) (λ x. x.standing ≡ standing_in undone x.ticket) _ others earlier (others_before earlier k later up) st.0) (
              own ∙ ap (standing_in undone') (sym t),
              all_both (λ x. (x.ticket == k.ticket) ≡ false) (λ x. x.standing ≡ standing_in undone x.ticket) _ others later (others_after earlier k later up) st.1.1,
            );
        known = subst (λ (l : List ℕ). AllByRecursion (λ n. is_among l n ≡ true) undone') (sym same) known;
        once = once;
        closed = closed;
        in_turn = in_turn;
        few = omega (arith, are.few, length-append earlier (k' ∷ later), length-append earlier (k ∷ later));
        fits = fits;
        room = are.room;
      }

  -- ---- it is undone

  uncovered_struck : (saved : S) (earlier later : List (KeptChange S)) → k'.standing ≢ Done → IsUncovered table saved (earlier ++ k ∷ later) → IsUncovered table saved (earlier ++ k' ∷ later)
  uncovered_struck saved [] later n h = (λ same. n, h.1)
  uncovered_struck saved (x ∷ earlier) later n h = (h.0, uncovered_struck saved earlier later n h.1)

  pub closed_struck : (earlier later : List (KeptChange S)) → k'.standing ≡ Undone → IsUncovered table k.saved later → IsClosed table (earlier ++ k ∷ later) → IsClosed table (earlier ++ k' ∷ later)
  closed_struck [] later s u h = (λ undone. all_weaker _ _ (λ x f same. f (one_table_as (table k.saved) (table k'.saved) (table x.saved) e same)) later u, h.1)
  closed_struck (x ∷ earlier) later s u h = (λ undone. uncovered_struck x.saved earlier later (λ d. Undone≢Done (sym s ∙ d)) (h.0 undone), closed_struck earlier later s u h.1)

  turn_pushed : (undone : List ℕ) (n : ℕ) (kept : List (KeptChange S)) → AreInTurn table undone kept → AreInTurn table (undone ++ n ∷ []) kept
  turn_pushed undone n [] h = tt
  turn_pushed undone n (x ∷ kept) h = (all_weaker _ _ (λ j f same ux uj. before_push undone n j.ticket x.ticket (f same ux uj)) kept h.0, turn_pushed undone n kept h.1)

  pub turn_struck : (earlier later : List (KeptChange S)) (undone : List ℕ) → k.standing ≡ Done → IsClosed table (earlier ++ k ∷ later) →
      AllByRecursion (λ x. x.standing ≡ standing_in undone x.ticket) later → AreInTurn table undone (earlier ++ k ∷ later) → AreInTurn table (undone ++ k.ticket ∷ []) (earlier ++ k' ∷ later)
  turn_struck [] later undone d c st h = (
    all_weaker _ _ (λ j own same uk uj. ap (λ n. is_before (undone ++ k.ticket ∷ []) j.ticket n) t ∙ before_last undone j.ticket k.ticket (standing_undone (is_among undone j.ticket) (sym own ∙ uj))) later st,
    turn_pushed undone k.ticket later h.1,
  )
  turn_struck (x ∷ earlier) later undone d c st h =
      let parts = all_split (λ j. IsOneTable (table x.saved) (table j.saved) → x.standing ≡ Undone → j.standing ≡ Undone → is_before undone j.ticket x.ticket ≡ true) earlier (k ∷ later) h.0 in
      let pushed : (those : List (KeptChange S)) → AllByRecursion (λ j. IsOneTable (table x.saved) (table j.saved) → x.standing ≡ Undone → j.standing ≡ Undone → is_before undone j.ticket x.ticket ≡ true) those →
      AllByRecursion (λ j. IsOneTable (table x.saved) (table j.saved) → x.standing ≡ Undone → j.standing ≡ Undone → is_before (undone ++ k.ticket ∷ []) j.ticket x.ticket ≡ true) those
      = λ those all. all_weaker _ _ (λ j f same ux uj. before_push undone k.ticket j.ticket x.ticket (f same ux uj)) those all in (
        all-append _ earlier (k' ∷ later) (pushed earlier parts.0) (
          λ same ux uj. absurd ((all_split (λ j. IsOneTable (table x.saved) (table j.saved) → j.standing ≢ Done) earlier (k ∷ later) (c.0 ux)).1.0
              (one_table_to (table x.saved) (table k.saved) (table k'.saved) e same) d),
          pushed later parts.1.1,
        ),
        turn_struck earlier later undone d c.1 st h.1,
      )

  standing_pushed : (undone : List ℕ) (x : KeptChange S) → (x.ticket == k.ticket) ≡ false → x.standing ≡ standing_in undone x.ticket → x.standing ≡ standing_in (undone ++ k.ticket ∷ []) x.ticket
  standing_pushed undone x other own =
      own ∙ sym (ap (λ (b : Bool). if b then Undone else Done) (among_push_other undone k.ticket x.ticket (turned_test x.ticket k.ticket other)))
    where
      turned_test : (a b : ℕ) → (a == b) ≡ false → (b == a) ≡ false
      turned_test a b f = other_number b a (λ same. false≢true (sym f ∙ (ap (λ n. a == n) same ∙ same_number a)))

  struck_are : (earlier later : List (KeptChange S)) (undone : List ℕ) (tickets limit : ℕ) → k.standing ≡ Done → k'.standing ≡ Undone → IsUncovered table k.saved later →
      AreChanges table (record { kept = earlier ++ k ∷ later; undone = undone; tickets = tickets; limit = limit }) →
      AreChanges table (record { kept = earlier ++ k' ∷ later; undone = undone ++ k.ticket ∷ []; tickets = tickets; limit = limit })
  struck_are earlier later undone tickets limit d u uncovered are =
      let st = all_split (λ x. x.standing ≡ standing_in undone x.ticket) earlier (k ∷ later) are.standings in
      let absent : is_among undone k.ticket ≡ false = standing_done (is_among undone k.ticket) (sym st.1.0 ∙ d) in
      with_other earlier later undone (undone ++ k.ticket ∷ []) tickets limit are (λ x. standing_pushed undone x)
      (u ∙ sym (ap (λ (b : Bool). if b then Undone else Done) (among_push_here undone k.ticket)))
      (all-append (λ n. is_among (tickets_of (earlier ++ k ∷ later)) n ≡ true) undone (k.ticket ∷ []) are.known (among_here earlier k later, tt))
      (different_push undone k.ticket are.once absent) (closed_struck earlier later u uncovered are.closed) (turn_struck earlier later undone d are.closed st.1.1 are.in_turn)
      (omega (arith, are.fits, out_more earlier k k' later (ap is_done d) (ap is_done u), length-append undone (k.ticket ∷ [])))

  -- ---- it is in effect again

  uncovered_back : (x : KeptChange S) (earlier later : List (KeptChange S)) → (IsOneTable (table k.saved) (table x.saved) → ⊥) → IsUncovered table x.saved (earlier ++ k ∷ later) →
      IsUncovered table x.saved (earlier ++ k' ∷ later)
  uncovered_back x [] later apart h = (λ same. absurd (apart (one_table_turned (table x.saved) (table k.saved) (one_table_to (table x.saved) (table k.saved) (table k'.saved) e same))), h.1)
  uncovered_back x (y ∷ earlier) later apart h = (h.0, uncovered_back x earlier later apart h.1)

  pub closed_back : (earlier later : List (KeptChange S)) → k'.standing ≡ Done → IsFounded table k.saved earlier → IsClosed table (earlier ++ k ∷ later) → IsClosed table (earlier ++ k' ∷ later)
  closed_back [] later d f h = (λ undone. absurd (Done≢Undone (sym d ∙ undone)), h.1)
  closed_back (x ∷ earlier) later d f h = (λ undone. uncovered_back x earlier later (λ same. f.0 same undone) (h.0 undone), closed_back earlier later d f.1 h.1)

  turn_without : (undone : List ℕ) (n : ℕ) (kept : List (KeptChange S)) → AllByRecursion (λ x. (x.ticket == n) ≡ false) kept → AreInTurn table undone kept → AreInTurn table (without n undone) kept
  turn_without undone n [] out h = tt
  turn_without undone n (x ∷ kept) out h =
      (all_both _ _ _ (λ j other f same ux uj. before_without undone n j.ticket x.ticket other out.0 (f same ux uj)) kept out.1 h.0, turn_without undone n kept out.1 h.1)

  pub turn_back : (earlier later : List (KeptChange S)) (undone : List ℕ) → k'.standing ≡ Done → AreAscending (tickets_of (earlier ++ k ∷ later)) →
      AreInTurn table undone (earlier ++ k ∷ later) → AreInTurn table (without k.ticket undone) (earlier ++ k' ∷ later)
  turn_back [] later undone d up h =
      (all_weaker _ _ (λ j f same uk uj. absurd (Done≢Undone (sym d ∙ uk))) later h.0, turn_without undone k.ticket later (others_after [] k later up) h.1)
  turn_back (x ∷ earlier) later undone d up h =
      let parts = all_split (λ j. IsOneTable (table x.saved) (table j.saved) → x.standing ≡ Undone → j.standing ≡ Undone → is_before undone j.ticket x.ticket ≡ true) earlier (k ∷ later) h.0 in
      let own : (x.ticket == k.ticket) ≡ false = (others_before (x ∷ earlier) k later up).0 in
      let left : (those : List (KeptChange S)) → AllByRecursion (λ j. (j.ticket == k.ticket) ≡ false) those →
      AllByRecursion (λ j. IsOneTable (table x.saved) (table j.saved) → x.standing ≡ Undone → j.standing ≡ Undone → is_before undone j.ticket x.ticket ≡ true) those →
      AllByRecursion (λ j. IsOneTable (table x.saved) (table j.saved) → x.standing ≡ Undone → j.standing ≡ Undone → is_before (without k.ticket undone) j.ticket x.ticket ≡ true) those
      = λ those out all. all_both _ _ _ (λ j other f same ux uj. before_without undone k.ticket j.ticket x.ticket other own (f same ux uj)) those out all in (
        all-append _ earlier (k' ∷ later) (left earlier (others_before earlier k later up.1) parts.0) (
          λ same ux uj. absurd (Done≢Undone (sym d ∙ uj)),
          left later (others_after earlier k later up.1) parts.1.1,
        ),
        turn_back earlier later undone d up.1 h.1,
      )

  standing_left : (undone : List ℕ) (x : KeptChange S) → (x.ticket == k.ticket) ≡ false → x.standing ≡ standing_in undone x.ticket → x.standing ≡ standing_in (without k.ticket undone) x.ticket
  standing_left undone x other own = own ∙ sym (ap (λ (b : Bool). if b then Undone else Done) (among_without_other undone k.ticket x.ticket other))

  undone_there : (earlier later : List (KeptChange S)) (undone : List ℕ) → k.standing ≡ Undone → AllByRecursion (λ x. x.standing ≡ standing_in undone x.ticket) (earlier ++ k ∷ later) → is_among undone k.ticket ≡ true
  undone_there earlier later undone u st = standing_undone (is_among undone k.ticket) (sym (all_split (λ x. x.standing ≡ standing_in undone x.ticket) earlier (k ∷ later) st).1.0 ∙ u)

  back_are : (earlier later : List (KeptChange S)) (undone : List ℕ) (tickets limit : ℕ) → k.standing ≡ Undone → k'.standing ≡ Done → IsFounded table k.saved earlier →
      AreChanges table (record { kept = earlier ++ k ∷ later; undone = undone; tickets = tickets; limit = limit }) →
      AreChanges table (record { kept = earlier ++ k' ∷ later; undone = without k.ticket undone; tickets = tickets; limit = limit })
  back_are earlier later undone tickets limit u d founded are =
      let there : is_among undone k.ticket ≡ true = undone_there earlier later undone u are.standings in
      with_other earlier later undone (without k.ticket undone) tickets limit are (λ x. standing_left undone x)
      (d ∙ sym (ap (λ (b : Bool). if b then Undone else Done) (among_without_here undone k.ticket)))
      (all_filter (λ n. is_among (tickets_of (earlier ++ k ∷ later)) n ≡ true) (λ n. not (n == k.ticket)) undone are.known)
      (different_without undone k.ticket are.once) (closed_back earlier later d founded are.closed) (turn_back earlier later undone d are.ascending are.in_turn)
      (omega (arith, are.fits, out_more earlier k' k later (ap is_done d) (ap is_done u), length_without undone k.ticket there))

  -- ---- it is turned

  pub turned_are : (from : Standing) → from ≢ Cleared → (earlier later : List (KeptChange S)) (undone : List ℕ) (tickets limit : ℕ) → k.standing ≡ from → k'.standing ≡ turned from →
      IsClear table from k.saved (passed from earlier later) → AreChanges table (record { kept = earlier ++ k ∷ later; undone = undone; tickets = tickets; limit = limit }) →
      AreChanges table (record { kept = earlier ++ k' ∷ later; undone = undone_with from k.ticket undone; tickets = tickets; limit = limit })
  turned_are Done live earlier later undone tickets limit was is clear are = struck_are earlier later undone tickets limit was is clear are
  turned_are Undone live earlier later undone tickets limit was is clear are = back_are earlier later undone tickets limit was is clear are
  turned_are Cleared live earlier later undone tickets limit was is clear are = absurd (live refl)

  pub turned_is : (from : Standing) → from ≢ Cleared → (earlier later : List (KeptChange S)) (undone : List ℕ) (tickets limit : ℕ) → k.standing ≡ from → k'.standing ≡ turned from →
      AreChanges table (record { kept = earlier ++ k ∷ later; undone = undone; tickets = tickets; limit = limit }) →
      HasTurned from (record { kept = earlier ++ k ∷ later; undone = undone; tickets = tickets; limit = limit }) k.ticket
      (record { kept = earlier ++ k' ∷ later; undone = undone_with from k.ticket undone; tickets = tickets; limit = limit })
  turned_is from live earlier later undone tickets limit was is are = record {
    reached = reached from live was;
    standings = with_here earlier k k' later t are.ascending ∙ ap (λ (s : Standing). standings_with k.ticket s (standings_of (earlier ++ k ∷ later))) is;
    undone = refl;
    tickets = refl;
    limit = refl;
  }
    where
      reached : (s : Standing) → s ≢ Cleared → k.standing ≡ s → is_among (turnable s (record { kept = earlier ++ k ∷ later; undone = undone; tickets = tickets; limit = limit })) k.ticket ≡ true
      reached Done live was = done_here earlier k later (ap is_done was)
      reached Undone live was = undone_there earlier later undone was are.standings
      reached Cleared live was = absurd (live refl)

-- ---- the one that was undone last

-- No earlier change of its table is undone, since that would have been undone after it.
pub last_founded : {S : Type 0} (table : S → Option ℕ) (earlier : List (KeptChange S)) (k : KeptChange S) (later : List (KeptChange S)) (front undone : List ℕ) →
    undone ≡ front ++ k.ticket ∷ [] → AreDifferent undone → k.standing ≡ Undone → AreInTurn table undone (earlier ++ k ∷ later) → IsFounded table k.saved earlier
last_founded table [] k later front undone e once u h = tt
last_founded table (x ∷ earlier) k later front undone e once u h = (
  λ same ux.
      let before = (all_split (λ j. IsOneTable (table x.saved) (table j.saved) → x.standing ≡ Undone → j.standing ≡ Undone → is_before undone j.ticket x.ticket ≡ true) earlier (k ∷ later) h.0).1.0
      (one_table_turned (table k.saved) (table x.saved) same) ux u in
      let never = last_before_none front k.ticket x.ticket (absent_front front k.ticket (subst AreDifferent e once)) in
      false≢true (sym never ∙ (ap (λ (l : List ℕ). is_before l k.ticket x.ticket) (sym e) ∙ before)),
  last_founded table earlier k later front undone e once u h.1,
)
  where
    absent_front : (xs : List ℕ) (n : ℕ) → AreDifferent (xs ++ n ∷ []) → is_among xs n ≡ false
    absent_front [] n h = refl
    absent_front (y ∷ xs) n h =
        let apart : (y == n) ≡ false = other_number y n (λ same. false≢true (sym h.0 ∙ (ap (is_among (xs ++ n ∷ [])) same ∙ among_push_here xs n))) in
        ap (λ (b : Bool). b || is_among xs n) apart ∙ absent_front xs n h.1
