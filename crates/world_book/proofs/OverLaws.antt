-- What is read of the choice in which one kept change stands the other way is what the history shows after its undo, or after its redo.
use Rattle.std.proofs.Common.{◌≡◌, ◌≢◌, ℕ, zero, suc, ◌+◌, ◌<◌, ◌≤◌, Bool, true, false, Option, Some, None, List, [], ◌∷◌, ◌++◌, take, drop, refl, sym, ap, subst, ◌∙◌, inl, inr, ◌⊎◌, arith, rules, add-one, eq-eqb}
use Rattle.std.specs.Prelude.{not, slice_get, ◌==◌, if◌then◌else◌}
use Rattle.std.specs.List.{AllByRecursion}
use Rattle.std.proofs.lemmas.Bool.{false≢true}
use Rattle.dns_text.specs.declared.record.Question.{Question}
use Rattle.ranked.specs.declared.cell.Shown.{Shown}
use Rattle.ranked.specs.declared.find.Find.{Find}
use Rattle.ranked.specs.Cell.{shown_at}
use Rattle.local_zone.specs.Answer.{local_of}
use Rattle.change_law.specs.declared.kept.KeptChange.{KeptChange}
use Rattle.change_law.specs.declared.kept.Standing.{Standing}
use Rattle.change_law.specs.declared.kept.Standing.TheVariants.{Done, Undone, Cleared}
use Rattle.change_law.specs.declared.world.World.{Ghosts}
use Rattle.change_law.specs.Choice.{AllowsAt, AreLeftOut, IsChoice, IsFounded, IsOneTable, IsPresent, IsUncovered, is_done, IsClear, passed, turned}
use Rattle.change_law.specs.Row.{kept_as}
use Rattle.change_law.specs.Turn.{CanTurnOver, HoldsOver}
use Rattle.undo_journal.specs.Journal.{AreAscending, AreChanges, CanBeTurned, Changes, IsClosed, standings_of, tickets_of}
use Rattle.world_book.specs.Course.{IsFair}
use Rattle.world_book.proofs.CourseLaws.{differs, other_struck}
use Rattle.history.specs.declared.event.Command.{Command}
use Rattle.history.specs.declared.event.Seen.{Seen}
use Rattle.history.specs.declared.tables.Tables.{Tables}
use Rattle.history.specs.History.{Past, is_unstruck}
use Rattle.history.specs.Journal.{command_at}
use Rattle.history.specs.Marks.{is_struck}
use Rattle.history.specs.Reply.{answer_by, seen_by, seen_first}
use Rattle.world_book.specs.Deeds.{answer_in, face_of}
use Rattle.world_book.specs.Held.{held_in, held_one}
use Rattle.world_book.specs.Tied.{IsTied}
use Rattle.world_book.specs.Turned.{turn_marks}
use Rattle.world_book.proofs.MarkLaws.{struck_after}
use Rattle.world_book.proofs.ReplyLaws.{shown_same}
use Rattle.world_book.proofs.VersionLaws.{face_is}

pub done_lives : Done ≢ Cleared
done_lives e = absurd cc

pub undone_lives : Undone ≢ Cleared
undone_lives e = absurd cc

not_not : (b : Bool) → not (not b) ≡ b
not_not true = refl
not_not false = refl

-- ---- places

split_at : {X : Type 0} (xs : List X) (n : ℕ) (x : X) → slice_get xs n ≡ Some x → xs ≡ take n xs ++ x ∷ drop (suc n) xs
split_at [] n x e = absurd (search rules)
split_at (a ∷ xs) zero x e = cc
split_at (a ∷ xs) (suc n) x e = ap (λ l. a ∷ l) (split_at xs n x e)

module _ {S : Type 0} where
  -- the kept change at a place, with those before it and those after it
  kept_at : (kept : List (KeptChange S)) (place : ℕ) (k : KeptChange S) (s : Standing) → slice_get kept place ≡ Some k → k.standing ≡ s
      → kept ≡ take place kept ++ kept_as s k.ticket k.saved ∷ drop (place + 1) kept
  kept_at kept place k s there is =
      split_at kept place k there
      ∙ ap (λ (n : ℕ). take place kept ++ k ∷ drop n kept) (sym (add-one place))
      ∙ ap (λ (t : Standing). take place kept ++ kept_as t k.ticket k.saved ∷ drop (place + 1) kept) is

  -- what holds of all tickets holds of the one between
  ticket_between : (P : ℕ → Type 0) (earlier : List (KeptChange S)) (k : KeptChange S) (later : List (KeptChange S)) → AllByRecursion P (tickets_of (earlier ++ k ∷ later)) → P k.ticket
  ticket_between P [] k later h = h.0
  ticket_between P (x ∷ earlier) k later h = ticket_between P earlier k later h.1

  -- the command of a kept change is found by its ticket
  held_at : (told : S → Command) (earlier : List (KeptChange S)) (k : KeptChange S) (later : List (KeptChange S)) → AreAscending (tickets_of (earlier ++ k ∷ later))
      → command_at (held_in told (earlier ++ k ∷ later)) k.ticket ≡ Some (held_one told k)
  held_at told [] k later up = ap (λ (b : Bool). if b then Some (held_one told k) else command_at (held_in told later) k.ticket) (eq-eqb k.ticket k.ticket refl)
  held_at told (x ∷ earlier) k later up =
      let less : x.ticket < k.ticket = ticket_between (λ t. x.ticket < t) earlier k later up.0 in
      let apart : (x.ticket == k.ticket) ≡ false = differs x.ticket k.ticket (λ e. omega (arith, e, less)) in
      ap (λ (b : Bool). if b then Some (held_one told x) else command_at (held_in told (earlier ++ k ∷ later)) k.ticket) apart ∙ held_at told earlier k later up.1

  pub held_there : (told : S → Command) (kept : List (KeptChange S)) (place : ℕ) (k : KeptChange S) → AreAscending (tickets_of kept) → slice_get kept place ≡ Some k
      → command_at (held_in told kept) k.ticket ≡ Some (held_one told k)
  held_there told kept place k up there =
      let all = split_at kept place k there in
      ap (λ (l : List (KeptChange S)). command_at (held_in told l) k.ticket) all
      ∙ held_at told (take place kept) k (drop (suc place) kept) (subst (λ (l : List (KeptChange S)). AreAscending (tickets_of l)) all up)

  -- a change that the journal can undo or redo can be turned
  pub can_turn : {W : Type 0} (table : S → Option ℕ) (keeps : W → List (KeptChange S) → Type 0) (w : W) (kept : List (KeptChange S)) (place : ℕ) (k : KeptChange S) → slice_get kept place ≡ Some k
      → keeps w kept → CanBeTurned table Done kept place ⊎ CanBeTurned table Undone kept place → CanTurnOver table keeps w k.saved
  can_turn {W} table keeps w kept place k there holds (inl can) =
      let same : can.here ≡ k = cc (can.there, there) in
      subst (λ (x : KeptChange S). CanTurnOver table keeps w x.saved) same
      (Done, (take place kept, (can.here.ticket, (drop (place + 1) kept, record { live = done_lives; kept = subst (keeps w) (kept_at kept place can.here Done can.there can.stands) holds; clear = can.clear }))))
  can_turn {W} table keeps w kept place k there holds (inr can) =
      let same : can.here ≡ k = cc (can.there, there) in
      subst (λ (x : KeptChange S). CanTurnOver table keeps w x.saved) same
      (Undone, (take place kept, (can.here.ticket, (drop (place + 1) kept, record { live = undone_lives; kept = subst (keeps w) (kept_at kept place can.here Undone can.there can.stands) holds; clear = can.clear }))))

  pub is_there : (table : S → Option ℕ) (kept : List (KeptChange S)) (place : ℕ) → CanBeTurned table Done kept place ⊎ CanBeTurned table Undone kept place → slice_get kept place ≢ None
  is_there table kept place (inl can) e = let f = sym can.there ∙ e in absurd cc
  is_there table kept place (inr can) e = let f = sym can.there ∙ e in absurd cc

-- ---- the choice in which one change alone stands the other way

one_table_turned : (a b : Option ℕ) → IsOneTable a b → IsOneTable b a
one_table_turned (Some a) (Some b) h = sym h
one_table_turned (Some a) None h = h
one_table_turned None (Some b) h = h
one_table_turned None None h = h

module _ {S : Type 0} (table : S → Option ℕ) (chosen : ℕ → Bool) where
  not_done : (s : Standing) → s ≢ Done → is_done s ≡ false
  not_done Done n = absurd (n refl)
  not_done Undone n = refl
  not_done Cleared n = refl

  left : (own : S) (later : List (KeptChange S)) → IsUncovered table own later → IsPresent later chosen → AreLeftOut table chosen own later
  left own [] u p = tt
  left own (k ∷ later) u p = (λ same. p.0 ∙ not_done k.standing (u.0 same), left own later u.1 p.1)

  allows : (s : Standing) (k : KeptChange S) (later : List (KeptChange S)) → chosen k.ticket ≡ is_done s → (s ≡ Undone → AreLeftOut table chosen k.saved later) → AllowsAt table chosen s k later
  allows Done k later p out = λ f. absurd (false≢true (sym f ∙ p))
  allows Undone k later p out = λ f. out refl
  allows Cleared k later p out = p

  present_choice : (kept : List (KeptChange S)) → IsClosed table kept → IsPresent kept chosen → IsChoice table kept chosen
  present_choice [] c p = tt
  present_choice (k ∷ kept) c p = (allows k.standing k kept p.0 (λ undone. left k.saved kept (c.0 undone) p.1), present_choice kept c.1 p.1)

  module _ (ticket : ℕ) (saved : S) (later : List (KeptChange S)) where
    left_struck : (own : S) (earlier : List (KeptChange S)) → IsUncovered table own (earlier ++ kept_as Done ticket saved ∷ later) → IsPresent (earlier ++ kept_as Undone ticket saved ∷ later) chosen
        → AreLeftOut table chosen own (earlier ++ kept_as Done ticket saved ∷ later)
    left_struck own [] u p = (λ same. p.0, left own later u.1 p.1)
    left_struck own (x ∷ earlier) u p = (λ same. p.0 ∙ not_done x.standing (u.0 same), left_struck own earlier u.1 p.1)

    choice_struck : (earlier : List (KeptChange S)) → IsClosed table (earlier ++ kept_as Done ticket saved ∷ later) → IsUncovered table saved later
        → IsPresent (earlier ++ kept_as Undone ticket saved ∷ later) chosen → IsChoice table (earlier ++ kept_as Done ticket saved ∷ later) chosen
    choice_struck [] c u p = (λ f. left saved later u p.1, present_choice later c.1 p.1)
    choice_struck (x ∷ earlier) c u p =
        (allows x.standing x (earlier ++ kept_as Done ticket saved ∷ later) p.0 (λ undone. left_struck x.saved earlier (c.0 undone) p.1), choice_struck earlier c.1 u p.1)

    left_back : (own : S) (earlier : List (KeptChange S)) → (IsOneTable (table own) (table saved) → ⊥) → IsUncovered table own (earlier ++ kept_as Undone ticket saved ∷ later)
        → IsPresent (earlier ++ kept_as Done ticket saved ∷ later) chosen → AreLeftOut table chosen own (earlier ++ kept_as Undone ticket saved ∷ later)
    left_back own [] apart u p = (λ same. absurd (apart same), left own later u.1 p.1)
    left_back own (x ∷ earlier) apart u p = (λ same. p.0 ∙ not_done x.standing (u.0 same), left_back own earlier apart u.1 p.1)

    choice_back : (earlier : List (KeptChange S)) → IsClosed table (earlier ++ kept_as Undone ticket saved ∷ later) → IsFounded table saved earlier
        → IsPresent (earlier ++ kept_as Done ticket saved ∷ later) chosen → IsChoice table (earlier ++ kept_as Undone ticket saved ∷ later) chosen
    choice_back [] c f p = (λ out. absurd (false≢true (sym out ∙ p.0)), present_choice later c.1 p.1)
    choice_back (x ∷ earlier) c f p = (
      allows x.standing x (earlier ++ kept_as Undone ticket saved ∷ later) p.0
          (λ undone. left_back x.saved earlier (λ same. f.0 (one_table_turned (table x.saved) (table saved) same) undone) (c.0 undone) p.1),
      choice_back earlier c.1 f.1 p.1,
    )

    -- the other way round, from a standing
    pub choice_over : (from : Standing) → from ≢ Cleared → (earlier : List (KeptChange S)) → IsClosed table (earlier ++ kept_as from ticket saved ∷ later) → IsClear table from saved (passed from earlier later)
        → IsPresent (earlier ++ kept_as (turned from) ticket saved ∷ later) chosen → IsChoice table (earlier ++ kept_as from ticket saved ∷ later) chosen
    choice_over Done live earlier c clear p = choice_struck earlier c clear p
    choice_over Undone live earlier c clear p = choice_back earlier c clear p
    choice_over Cleared live earlier c clear p = absurd (live refl)

-- what is not struck
abbrev unstruck : (ℕ → Bool) → ℕ → Bool
unstruck struck t = not (struck t)

-- the same, if the change of one ticket stands so
abbrev chosen_over : (ℕ → Bool) → ℕ → Standing → ℕ → Bool
chosen_over struck ticket to t = not (if t == ticket then not (is_done to) else struck t)

module _ {S : Type 0} (struck : ℕ → Bool) (ticket : ℕ) (from to : Standing) (saved : S) where
  other : (k : KeptChange S) → k.ticket ≢ ticket → struck k.ticket ≡ not (is_done k.standing) → chosen_over struck ticket to k.ticket ≡ is_done k.standing
  other k apart marked = ap not (other_struck struck (not (is_done to)) ticket k.ticket apart ∙ marked) ∙ not_not (is_done k.standing)

  above : (later : List (KeptChange S)) → AllByRecursion (λ t. ticket < t) (tickets_of later) → AllByRecursion (λ one. struck one.0 ≡ not (is_done one.1)) (standings_of later)
      → IsPresent later (chosen_over struck ticket to)
  above [] up marked = tt
  above (k ∷ later) up marked = (other k (λ e. omega (arith, e, up.0)) marked.0, above later up.1 marked.1)

  present_over : (earlier later : List (KeptChange S)) → AreAscending (tickets_of (earlier ++ kept_as from ticket saved ∷ later))
      → AllByRecursion (λ one. struck one.0 ≡ not (is_done one.1)) (standings_of (earlier ++ kept_as from ticket saved ∷ later)) → IsPresent (earlier ++ kept_as to ticket saved ∷ later) (chosen_over struck ticket to)
  present_over [] later up marked =
      (ap (λ (b : Bool). not (if b then not (is_done to) else struck ticket)) (eq-eqb ticket ticket refl) ∙ not_not (is_done to), above later up.0 marked.1)
  present_over (k ∷ earlier) later up marked =
      let less : k.ticket < ticket = ticket_between (λ t. k.ticket < t) earlier (kept_as from ticket saved) later up.0 in
      (other k (λ e. omega (arith, e, less)) marked.0, present_over earlier later up.1 marked.1)

-- ---- what is read there is what the history shows

module _ {W S : Type 0} (by : Ghosts W Tables S Command) (w : W) (changes : Changes S) (bound : ℕ) (past : Past) (are : AreChanges by.table changes) (tied : IsTied by w changes bound past)
    (q : Question) (clock : ℕ) (less : past.now ≤ clock) (seen : Seen) where
  face_tells : (chosen : ℕ → Bool) → IsChoice by.table changes.kept chosen → IsFair changes (is_struck past.marks) chosen
      → answer_in (by.face w changes.kept chosen) q clock ≡ answer_by chosen past.log q clock
  face_tells chosen choice fair =
      let face = by.face w changes.kept chosen in
      let same = face_is by w changes bound past are tied chosen choice fair in
      ap (λ (t : Tables). seen_first (local_of t.local q) (seen_by (shown_at (face.cell q) clock))) same.tables
      ∙ ap (λ (s : Option (Shown Find)). seen_first (local_of (face_of chosen past.log).tables.local q) (seen_by s))
      (shown_same past.now clock (face.cell q) ((face_of chosen past.log).cell q) less (same.cell q))

  module _ (earlier : List (KeptChange S)) (ticket : ℕ) (saved : S) (later : List (KeptChange S)) (over : HoldsOver by.table by.keeps by.face w saved (λ face. seen ≡ answer_in face q clock)) where
    fair_over : (from to : Standing) → changes.kept ≡ earlier ++ kept_as from ticket saved ∷ later → IsFair changes (is_struck past.marks) (chosen_over (is_struck past.marks) ticket to)
    fair_over from to e t given absent =
        let apart : ticket ≢ t = ticket_between (λ u. u ≢ t) earlier (kept_as from ticket saved) later (subst (λ (l : List (KeptChange S)). AllByRecursion (λ u. u ≢ t) (tickets_of l)) e absent) in
        ap not (other_struck (is_struck past.marks) (not (is_done to)) ticket t (λ same. apart (sym same)))

    present : (from to : Standing) → changes.kept ≡ earlier ++ kept_as from ticket saved ∷ later → IsPresent (earlier ++ kept_as to ticket saved ∷ later) (chosen_over (is_struck past.marks) ticket to)
    present from to e =
        present_over (is_struck past.marks) ticket from to saved earlier later (subst (λ (l : List (KeptChange S)). AreAscending (tickets_of l)) e tied.stands.ascending)
        (subst (λ (l : List (KeptChange S)). AllByRecursion (λ one. is_struck past.marks one.0 ≡ not (is_done one.1)) (standings_of l)) e tied.stands.marked)

    as_chosen : (chosen : ℕ → Bool) (to : Standing) → chosen ≡ chosen_over (is_struck past.marks) ticket to
        → seen ≡ answer_by (chosen_over (is_struck past.marks) ticket to) past.log q clock → seen ≡ answer_by chosen past.log q clock
    as_chosen chosen to same e = e ∙ ap (λ (c : ℕ → Bool). answer_by c past.log q clock) (sym same)

    pub tells : (from : Standing) → from ≢ Cleared → changes.kept ≡ earlier ++ kept_as from ticket saved ∷ later → IsClear by.table from saved (passed from earlier later)
        → seen ≡ answer_by (is_unstruck (turn_marks from past.marks ticket)) past.log q clock
    tells from live e clear =
        let chosen = chosen_over (is_struck past.marks) ticket (turned from) in
        let here = present from (turned from) e in
        let choice = subst (λ (l : List (KeptChange S)). IsChoice by.table l chosen) (sym e)
        (choice_over by.table chosen ticket saved later from live earlier (subst (λ (l : List (KeptChange S)). IsClosed by.table l) e are.closed) clear here) in
        as_chosen (is_unstruck (turn_marks from past.marks ticket)) (turned from) (ap unstruck (struck_after from live past.marks ticket))
        (over from earlier ticket later (record { live = live; kept = subst (by.keeps w) e tied.stands.kept; clear = clear }) chosen here
        ∙ ap (λ (l : List (KeptChange S)). answer_in (by.face w l chosen) q clock) (sym e)
        ∙ face_tells chosen choice (fair_over from (turned from) e))

  -- ---- at a place of the journal

  pub turn_tells : (from : Standing) → from ≢ Cleared → (place : ℕ) (t : ℕ) (can : CanBeTurned by.table from changes.kept place) → can.here.ticket ≡ t
      → ((k : KeptChange S) → slice_get changes.kept place ≡ Some k → HoldsOver by.table by.keeps by.face w k.saved (λ face. seen ≡ answer_in face q clock))
      → seen ≡ answer_by (is_unstruck (turn_marks from past.marks t)) past.log q clock
  turn_tells from live place t can own over =
      subst (λ (n : ℕ). seen ≡ answer_by (is_unstruck (turn_marks from past.marks n)) past.log q clock) own
      (tells (take place changes.kept) can.here.ticket can.here.saved (drop (place + 1) changes.kept) (over can.here can.there) from live
      (kept_at changes.kept place can.here from can.there can.stands) can.clear)
