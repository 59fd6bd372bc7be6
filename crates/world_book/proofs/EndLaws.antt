-- The finds that are alive by a choice of commands: those of a past are those of the faces of the world that it comes to.
use Rattle.std.proofs.Common.{◌≡◌, ◌≢◌, ◌<◌, ◌≤◌, ◌∙◌, ◌∷◌, [], ◌⊎◌, inl, inr, ℕ, Bool, true, false, cond, Option, Some, None, List, map, max, refl, sym, ap, subst, arith}
use Rattle.std.specs.Prelude.{◌==◌, ◌||◌, fold, is_some, if◌then◌else◌}
use Rattle.std.specs.List.{AllByRecursion, Contains, cons_option}
use Rattle.std.proofs.lemmas.Bool.{cases_Bool, eqb-true, false≢true}
use Rattle.dns_name.specs.Labels.{Labels}
use Rattle.dns_text.specs.declared.record.Question.{Question}
use Rattle.ranked.specs.declared.cell.Admitted.{Admitted}
use Rattle.ranked.specs.declared.find.Find.{Find}
use Rattle.ranked.specs.Cell.{is_alive}
use Rattle.ranked.specs.Oldest.{EndsFirst, NoneEnds}
use Rattle.ranked.specs.OldestLaws.{none_alike, oldest_alike}
use Rattle.change_law.specs.declared.kept.KeptChange.{KeptChange}
use Rattle.change_law.specs.declared.kept.Standing.{Standing}
use Rattle.change_law.specs.declared.kept.Standing.TheVariants.{Done, Undone, Cleared}
use Rattle.change_law.specs.declared.world.World.{Ghosts}
use Rattle.change_law.specs.Choice.{Agree, AllowsAt, AreLeftOut, IsChoice}
use Rattle.change_law.specs.ChoiceLaws.{also_choice, has_also, other_number, outside, same_number, with_tables}
use Rattle.change_law.specs.Face.{alive_at}
use Rattle.change_law.specs.Oldest.{AreCurrent, IsEnding}
use Rattle.undo_journal.specs.Journal.{Changes, AreChanges, tickets_of, told_of}
use Rattle.world_book.specs.Course.{AreAscending, IsFair}
use Rattle.history.specs.declared.event.Command.{Command}
use Rattle.history.specs.declared.event.Command.TheVariants.{FlushType, Flush, FlushZone, SetZone, DropZone, AddRecord, DropName, SetStub, DropStub}
use Rattle.history.specs.declared.event.Entry.{Entry}
use Rattle.history.specs.declared.event.Event.{Event}
use Rattle.history.specs.declared.event.Event.TheVariants.{Admit, Look, Sweep, Forget, Do, Undo, Redo, UndoOf, RedoOf}
use Rattle.history.specs.declared.event.Journalled.{Journalled}
use Rattle.history.specs.declared.tables.Tables.{Tables}
use Rattle.history.specs.Cells.{cell_after, cell_by}
use Rattle.history.specs.Event.{covers}
use Rattle.history.specs.History.{Past, is_unstruck, standing_with}
use Rattle.history.specs.Journal.{commands_of}
use Rattle.history.specs.Marks.{is_struck}
use Rattle.history.specs.Oldest as of_past
use Rattle.world_book.specs.Deeds.{given_in, given_of}
use Rattle.world_book.specs.Held.{held_in}
use Rattle.world_book.specs.Tied.{IsTied}
use Rattle.world_book.specs.Versions.{table_of}
use Rattle.world_book.proofs.HeldLaws.{first_of, in_front, of_all}
use Rattle.world_book.proofs.VersionLaws.{absent_held, face_shows, held_commands_of, none_cleared, tables_kept, HasTable}

-- ---- tickets of the kept changes

of_tickets : {S : Type 0} (P : ℕ → Type 0) (kept : List (KeptChange S)) → AllByRecursion P (tickets_of kept) → AllByRecursion (λ k. P k.ticket) kept
of_tickets P [] all = tt
of_tickets P (k ∷ kept) all = (all.0, of_tickets P kept all.1)

of_held : {S : Type 0} (told : S → Command) (t : ℕ) (kept : List (KeptChange S)) → AllByRecursion (λ held. held.ticket ≢ t) (held_in told kept) → AllByRecursion (λ k. k.ticket ≢ t) kept
of_held told t [] all = tt
of_held told t (k ∷ kept) all = (all.0, of_held told t kept all.1)

are_current : {S : Type 0} (kept : List (KeptChange S)) → AllByRecursion (λ k. k.standing ≢ Cleared) kept → AreAscending (tickets_of kept) → AreCurrent kept
are_current [] standing up = tt
are_current (k ∷ kept) standing up = (standing.0, of_tickets (λ t. k.ticket < t) kept up.0, are_current kept standing.1 up.1)

-- ---- a choice of the kept changes, and another one of all others

abbrev amid : {S : Type 0} → List (KeptChange S) → (ℕ → Bool) → (ℕ → Bool) → ℕ → Bool
amid [] chosen others n = others n
amid (k ∷ kept) chosen others n = if k.ticket == n then chosen n else amid kept chosen others n

either_way : (b x y : Bool) → y ≡ x → cond b x y ≡ x
either_way true x y e = refl
either_way false x y e = e

module _ {S : Type 0} (chosen others : ℕ → Bool) where
  amid_past : (k : KeptChange S) (kept those : List (KeptChange S)) → Agree (amid kept chosen others) chosen those → Agree (amid (k ∷ kept) chosen others) chosen those
  amid_past k kept [] all = tt
  amid_past k kept (j ∷ those) all =
      (either_way (k.ticket == j.ticket) (chosen j.ticket) (amid kept chosen others j.ticket) all.0, amid_past k kept those all.1)

  amid_agrees : (kept : List (KeptChange S)) → Agree (amid kept chosen others) chosen kept
  amid_agrees [] = tt
  amid_agrees (k ∷ kept) = (
    ap (λ (b : Bool). cond b (chosen k.ticket) (amid kept chosen others k.ticket)) (same_number k.ticket),
    amid_past k kept kept (amid_agrees kept),
  )

  amid_outside : (n : ℕ) (kept : List (KeptChange S)) → AllByRecursion (λ k. k.ticket ≢ n) kept → amid kept chosen others n ≡ others n
  amid_outside n [] absent = refl
  amid_outside n (k ∷ kept) absent = ap (λ (b : Bool). cond b (chosen n) (amid kept chosen others n)) (other_number k.ticket n absent.0) ∙ amid_outside n kept absent.1

-- Of two choices that agree, one is allowed if the other is.
module _ {S : Type 0} (table : S → Option ℕ) (chosen other : ℕ → Bool) where
  left_same : (saved : S) (later : List (KeptChange S)) → Agree other chosen later → AreLeftOut table chosen saved later → AreLeftOut table other saved later
  left_same saved [] same out = tt
  left_same saved (k ∷ later) same out = (λ one. same.0 ∙ out.0 one, left_same saved later same.1 out.1)

  allows_same : (k : KeptChange S) (later : List (KeptChange S)) → other k.ticket ≡ chosen k.ticket → Agree other chosen later → (s : Standing) → AllowsAt table chosen s k later → AllowsAt table other s k later
  allows_same k later here same Done allows = λ out. left_same k.saved later same (allows (sym here ∙ out))
  allows_same k later here same Undone allows = λ out. left_same k.saved later same (allows (sym here ∙ out))
  allows_same k later here same Cleared allows = here ∙ allows

  choice_same : (kept : List (KeptChange S)) → Agree other chosen kept → IsChoice table kept chosen → IsChoice table kept other
  choice_same [] same choice = tt
  choice_same (k ∷ kept) same choice = (allows_same k kept same.0 same.1 k.standing choice.0, choice_same kept same.1 choice.1)

-- ---- a command of a table empties no cell

covers_none : (command : Command) (q : Question) (number : ℕ) → table_of command ≡ Some number → covers command q ≡ false
covers_none (FlushType target) q number is = let none : None ≡ Some number = is in absurd cc
covers_none (Flush name) q number is = let none : None ≡ Some number = is in absurd cc
covers_none (FlushZone name) q number is = let none : None ≡ Some number = is in absurd cc
covers_none (SetZone name kind) q number is = refl
covers_none (DropZone name) q number is = refl
covers_none (AddRecord new) q number is = refl
covers_none (DropName name) q number is = refl
covers_none (SetStub new) q number is = refl
covers_none (DropStub name) q number is = refl

module _ (chosen other : ℕ → Bool) (q : Question) where
  -- Two choices agree on a command, or it does not cover the question.
  abbrev IsIdle : ℕ × Command → Type 0
  IsIdle given = (other given.0 ≡ chosen given.0) ⊎ (covers given.1 q ≡ false)

  abbrev cell_from : Option (Admitted Find) → List Entry → Option (Admitted Find)
  cell_from cell entries = fold (cell_after q) cell entries

  one_cell : (a b : Bool) (entry : Entry) (xs ys : List Entry) (cell : Option (Admitted Find)) → (b ≡ a) ⊎ (cell_after q cell entry ≡ cell) →
      ((c : Option (Admitted Find)) → cell_from c ys ≡ cell_from c xs) → cell_from cell (cond b (entry ∷ ys) ys) ≡ cell_from cell (cond a (entry ∷ xs) xs)
  one_cell true true entry xs ys cell idle more = more (cell_after q cell entry)
  one_cell false false entry xs ys cell idle more = more cell
  one_cell true false entry xs ys cell idle more = elim idle [
    | inl e ↦ absurd (false≢true e)
    | inr none ↦ more cell ∙ sym (ap (λ (c : Option (Admitted Find)). cell_from c xs) none)
  ]
  one_cell false true entry xs ys cell idle more = elim idle [
    | inl e ↦ absurd (false≢true (sym e))
    | inr none ↦ ap (λ (c : Option (Admitted Find)). cell_from c ys) none ∙ more cell
  ]

  same_cells : (log : List Entry) → AllByRecursion IsIdle (given_in log) → (cell : Option (Admitted Find)) → cell_from cell (standing_with other log) ≡ cell_from cell (standing_with chosen log)
  same_cells [] all cell = refl
  same_cells (e ∷ log) all cell = by e.event e.moment e.ticket all (same_cells log)
    where
      by : (event : Event) (moment : ℕ) (ticket : Option ℕ) → AllByRecursion IsIdle (cons_option (given_of event ticket) (given_in log)) →
          (AllByRecursion IsIdle (given_in log) → (c : Option (Admitted Find)) → cell_from c (standing_with other log) ≡ cell_from c (standing_with chosen log)) →
          cell_from cell (standing_with other (record { event = event; moment = moment; ticket = ticket } ∷ log)) ≡ cell_from cell (standing_with chosen (record { event = event; moment = moment; ticket = ticket } ∷ log))
      by (Do m c) moment (Some t) idle more =
          let entry : Entry = record { event = Do m c; moment = moment; ticket = Some t } in
          let here : (other t ≡ chosen t) ⊎ (cell_after q cell entry ≡ cell) = elim idle.0 [
            | inl agree ↦ inl agree
            | inr none ↦ inr (ap (λ (b : Bool). cond b None cell) none)
          ] in
          one_cell (chosen t) (other t) entry (standing_with chosen log) (standing_with other log) cell here (more idle.1)
      by (Do m c) moment None idle more = more idle cell
      by (Admit m find) moment ticket idle more = more idle (cell_after q cell (record { event = Admit m find; moment = moment; ticket = ticket }))
      by (Forget m owner) moment ticket idle more = more idle (cell_after q cell (record { event = Forget m owner; moment = moment; ticket = ticket }))
      by (Look m a) moment ticket idle more = more idle cell
      by (Sweep m) moment ticket idle more = more idle cell
      by (Undo m) moment ticket idle more = more idle cell
      by (Redo m) moment ticket idle more = more idle cell
      by (UndoOf m named) moment ticket idle more = more idle cell
      by (RedoOf m named) moment ticket idle more = more idle cell

-- ---- a ticket is of one command

apart_all : (n : ℕ) (own : ℕ × Command) (gs : List (ℕ × Command)) → n ≡ own.0 → AllByRecursion (λ u. n < u) (map first_of gs) → AllByRecursion (λ g. own.0 ≡ g.0 → g ≡ own) gs
apart_all n own [] e all = tt
apart_all n own (g ∷ gs) e all = let less : n < g.0 = all.0 in (λ same. absurd (omega (arith, less, e, same)), apart_all n own gs e all.1)

one_command : (gs : List (ℕ × Command)) → AreAscending (map first_of gs) → (own : ℕ × Command) → Contains gs own → AllByRecursion (λ g. own.0 ≡ g.0 → g ≡ own) gs
one_command [] up own has = tt
one_command (g ∷ gs) up own has = elim (in_front g own gs has) [
  | inl e ↦ (λ same. e, apart_all g.0 own gs (ap first_of e) up.0)
  | inr more ↦ let less : g.0 < own.0 = of_all (λ u. g.0 < u) gs own up.0 more in (λ same. absurd (omega (arith, less, same)), one_command gs up.1 own more)
]

module _ {S : Type 0} (table : S → Option ℕ) (told : S → Command) (chosen : ℕ → Bool) (q : Question) (gs : List (ℕ × Command)) (up : AreAscending (map first_of gs)) where
  all_agree : (those : List (ℕ × Command)) → AllByRecursion (IsIdle chosen chosen q) those
  all_agree [] = tt
  all_agree (g ∷ those) = (inl refl, all_agree those)

  all_idle : (kept : List (KeptChange S)) → AllByRecursion (HasTable table told) kept → AllByRecursion (λ given. Contains gs given) (told_of told kept) → AllByRecursion (IsIdle chosen (with_tables table kept chosen) q) gs
  all_idle [] tables has = all_agree gs
  all_idle (k ∷ kept) tables has = merge gs (one_command gs up (k.ticket, told k.saved) has.0) (all_idle kept tables.1 has.1)
    where
      table_is : (g : ℕ × Command) → g ≡ (k.ticket, told k.saved) → table k.saved ≡ table_of g.1
      table_is g e = let own : table k.saved ≡ table_of (told k.saved) = tables.0 in own ∙ sym (ap (λ (p : ℕ × Command). table_of p.1) e)

      here : (g : ℕ × Command) → (k.ticket == g.0) ≡ true → g ≡ (k.ticket, told k.saved) → (t : Option ℕ) → table k.saved ≡ t → IsIdle chosen (with_tables table (k ∷ kept) chosen) q g
      here g same e None at = inl (ap (λ (b : Bool). cond b (is_some (table k.saved) || chosen g.0) (with_tables table kept chosen g.0)) same ∙ ap (λ (o : Option ℕ). is_some o || chosen g.0) at)
      here g same e (Some number) at = inr (covers_none g.1 q number (sym (table_is g e) ∙ at))

      one : (g : ℕ × Command) → (k.ticket ≡ g.0 → g ≡ (k.ticket, told k.saved)) → IsIdle chosen (with_tables table kept chosen) q g → IsIdle chosen (with_tables table (k ∷ kept) chosen) q g
      one g only idle = elim (cases_Bool (k.ticket == g.0)) [
        | inl same ↦ here g same (only (eqb-true k.ticket g.0 same)) (table k.saved) refl
        | inr differs ↦ elim idle [
          | inl agree ↦ inl (ap (λ (b : Bool). cond b (is_some (table k.saved) || chosen g.0) (with_tables table kept chosen g.0)) differs ∙ agree)
          | inr none ↦ inr none
        ]
      ]

      merge : (those : List (ℕ × Command)) → AllByRecursion (λ g. k.ticket ≡ g.0 → g ≡ (k.ticket, told k.saved)) those → AllByRecursion (IsIdle chosen (with_tables table kept chosen) q) those →
          AllByRecursion (IsIdle chosen (with_tables table (k ∷ kept) chosen) q) those
      merge [] only idle = tt
      merge (g ∷ those) only idle = (one g only.0 idle.0, merge those only.1 idle.1)

-- ---- a cell that is alive

alive_parts : (t : ℕ) (cell : Option (Admitted Find)) (held : Admitted Find) → alive_at t cell ≡ Some held → (cell ≡ Some held) × (is_alive held t ≡ true)
alive_parts t None held is = let none : None ≡ Some held = is in absurd cc
alive_parts t (Some own) held is = split (is_alive own t) refl is
  where
    split : (b : Bool) → is_alive own t ≡ b → cond b (Some own) None ≡ Some held → (Some own ≡ Some held) × (is_alive held t ≡ true)
    split true alive one = let same : own ≡ held = cc in (one, sym (ap (λ (h : Admitted Find). is_alive h t) same) ∙ alive)
    split false dead one = let none : None ≡ Some held = one in absurd cc

alive_whole : (t : ℕ) (cell : Option (Admitted Find)) (held : Admitted Find) → cell ≡ Some held → is_alive held t ≡ true → alive_at t cell ≡ Some held
alive_whole t cell held is alive = ap (alive_at t) is ∙ ap (λ (b : Bool). cond b (Some held) None) alive

-- ---- a world and a past

module _ {W S : Type 0} (by : Ghosts W Tables S Command) (w : W) (changes : Changes S) (bound : ℕ) (past : Past) (are : AreChanges by.table changes) (tied : IsTied by w changes bound past) where
  pub current : AreCurrent changes.kept
  current = are_current changes.kept (none_cleared by.table changes are) tied.stands.ascending

  -- what is alive in a past is alive in a face
  pub ends_in_face : (t : ℕ) → past.now ≤ t → (name : Labels) (end : ℕ) → of_past.IsEnding past t name end → IsEnding by.table by.face w changes.kept t name end
  ends_in_face t less name end is =
      let own : ℕ → Bool = with_tables by.table changes.kept is.chosen in
      let choice : IsChoice by.table changes.kept own = also_choice by.table is.chosen own changes.kept current (has_also by.table is.chosen changes.kept current) in
      let fair : IsFair changes (is_struck past.marks) own = λ ticket given absent.
      outside by.table is.chosen ticket changes.kept (of_tickets (λ u. u ≢ ticket) changes.kept absent)
      ∙ is.others ticket (subst (λ (l : List Journalled). AllByRecursion (λ held. held.ticket ≢ ticket) l) (held_commands_of by w changes bound past are tied) (absent_held by.table by.told ticket changes.kept absent)) in
      let q : Question = record { owner = name; kind = is.kind } in
      let idle = all_idle by.table by.told is.chosen q (given_in past.log) tied.given.ascending changes.kept (tables_kept by w changes bound past are tied) tied.given.kept in
      let same : cell_by q (standing_with own past.log) ≡ cell_by q (standing_with is.chosen past.log) = same_cells is.chosen own q past.log idle None in
      record {
        chosen = own;
        choice = choice;
        kind = is.kind;
        held = is.held;
        alive = face_shows by w changes bound past are tied t own less choice fair q ∙ alive_whole t (cell_by q (standing_with own past.log)) is.held (same ∙ is.cell) is.alive;
        at = is.at;
      }

  module _ (reads : (chosen other : ℕ → Bool) → Agree chosen other changes.kept → (q : Question) → (by.face w changes.kept chosen).cell q ≡ (by.face w changes.kept other).cell q) (t : ℕ) (less : past.now ≤ t) where
    abbrev Ends : Labels → ℕ → Type 0
    Ends = IsEnding by.table by.face w changes.kept t

    -- what is alive in a face is alive in a past
    ends_in_past : (name : Labels) (end : ℕ) → Ends name end → of_past.IsEnding past t name end
    ends_in_past name end is =
        let unstruck : ℕ → Bool = is_unstruck past.marks in
        let own : ℕ → Bool = amid changes.kept is.chosen unstruck in
        let agree : Agree own is.chosen changes.kept = amid_agrees is.chosen unstruck changes.kept in
        let choice : IsChoice by.table changes.kept own = choice_same by.table is.chosen own changes.kept agree is.choice in
        let fair : IsFair changes (is_struck past.marks) own = λ ticket given absent. amid_outside is.chosen unstruck ticket changes.kept (of_tickets (λ u. u ≢ ticket) changes.kept absent) in
        let q : Question = record { owner = name; kind = is.kind } in
        let alive : alive_at t (cell_by q (standing_with own past.log)) ≡ Some is.held
        = sym (face_shows by w changes bound past are tied t own less choice fair q) ∙ ap (alive_at t) (reads own is.chosen agree q) ∙ is.alive in
        let parts = alive_parts t (cell_by q (standing_with own past.log)) is.held alive in
        record {
          chosen = own;
          others = λ ticket absent. amid_outside is.chosen unstruck ticket changes.kept
              (of_held by.told ticket changes.kept (subst (λ (l : List Journalled). AllByRecursion (λ held. held.ticket ≢ ticket) l) (sym (held_commands_of by w changes bound past are tied)) absent));
          kind = is.kind;
          held = is.held;
          cell = parts.0;
          alive = parts.1;
          at = is.at;
        }

    pub oldest_in_past : (name : Labels) → EndsFirst Ends name → of_past.IsOldest past t (Some name)
    oldest_in_past name is = oldest_alike Ends (of_past.IsEnding past t) ends_in_past (ends_in_face t less) name is

    pub none_in_past : NoneEnds Ends → of_past.IsOldest past t None
    none_in_past none = none_alike Ends (of_past.IsEnding past t) ends_in_past (ends_in_face t less) none
