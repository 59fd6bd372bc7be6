-- The versions of a past are faces of the world that it comes to; and an event that needs no memory there needs none here.
use Rattle.std.proofs.Common.{◌≡◌, ◌≢◌, ℕ, ◌-◌, ◌≤◌, Bool, true, false, Option, Some, None, ◌⊎◌, inl, inr, List, [], ◌∷◌, zero, suc, length, take, drop, map, refl, sym, ap, subst, ◌∙◌, arith}
use Rattle.std.specs.Prelude.{if◌then◌else◌}
use Rattle.std.specs.List.{AllByRecursion}
use Rattle.dns_name.specs.Labels.{Labels}
use Rattle.dns_text.specs.declared.record.Question.{Question}
use Rattle.ranked.specs.declared.find.Scope.{Scope}
use Rattle.change_law.specs.declared.kept.KeptChange.{KeptChange}
use Rattle.change_law.specs.declared.kept.Standing.{Standing}
use Rattle.change_law.specs.declared.kept.Standing.TheVariants.{Done, Undone, Cleared}
use Rattle.change_law.specs.declared.world.World.{Ghosts}
use Rattle.change_law.specs.Choice.{AllowsAt, AreLeftOut, IsChoice, IsOneTable}
use Rattle.change_law.specs.Face.{IsSame, IsSameAt, alive_at}
use Rattle.change_law.specs.Pairs.{IsAliveIn}
use Rattle.undo_journal.specs.Journal.{Changes, AreChanges, NeedsNone, done_of, is_among, tickets_of, told_of}
use Rattle.undo_journal.specs.Needs.{UndoNeedsNone}
use Rattle.world_book.specs.Course.{IsFair, face_by}
use Rattle.world_book.proofs.CourseLaws.{same_at, same_at_later, same_at_then}
use Rattle.dns_name.specs.ListLaws.{all_weaker}
use Rattle.history.specs.declared.event.Command.{Command}
use Rattle.history.specs.declared.event.Journalled.{Journalled}
use Rattle.history.specs.declared.tables.Tables.{Tables}
use Rattle.history.specs.History.{Past}
use Rattle.history.specs.Journal.{commands_of}
use Rattle.history.specs.Marks.{is_struck, last_of}
use Rattle.world_book.specs.Deeds.{deeds_of, empty_face, face_of}
use Rattle.world_book.specs.Held.{held_in}
use Rattle.world_book.specs.Tied.{IsTied, tables_told, undo_may_need}
use Rattle.world_book.specs.Versions.{table_of, IsChoiceOf, IsAliveInVersion, IsFlush}
use Rattle.world_book.proofs.DeedLaws.{deeds_show}
use Rattle.world_book.proofs.HeldLaws.{held_commands}
use Rattle.world_book.proofs.NeedLaws.{no_need}
pub use Rattle.world_book.proofs.WayLaws.{HasTable}
use Rattle.world_book.proofs.WayLaws.{have_tables}

-- ---- the tables of the kept changes

module _ {S : Type 0} (table : S → Option ℕ) (told : S → Command) where
  left_out : (chosen : ℕ → Bool) (k : KeptChange S) (later : List (KeptChange S)) → HasTable table told k → AllByRecursion (HasTable table told) later →
      AllByRecursion (λ other. IsOneTable (table_of (told k.saved)) (table_of other.command) → chosen other.ticket ≡ false) (held_in told later) → AreLeftOut table chosen k.saved later
  left_out chosen k [] e tables out = tt
  left_out chosen k (j ∷ later) e tables out =
      let here : table j.saved ≡ table_of (told j.saved) = tables.0 in
      (λ one. out.0 (subst (λ (p : Option ℕ × Option ℕ). IsOneTable p.0 p.1) (λ i. (e i, here i)) one), left_out chosen k later e tables.1 out.1)

  allowed : (chosen : ℕ → Bool) (k : KeptChange S) (later : List (KeptChange S)) (s : Standing) → s ≢ Cleared →
      (chosen k.ticket ≡ false → AreLeftOut table chosen k.saved later) → AllowsAt table chosen s k later
  allowed chosen k later Done not_cleared h = h
  allowed chosen k later Undone not_cleared h = h
  allowed chosen k later Cleared not_cleared h = absurd (not_cleared refl)

  choice_of : (chosen : ℕ → Bool) (kept : List (KeptChange S)) → AllByRecursion (λ k. k.standing ≢ Cleared) kept → AllByRecursion (HasTable table told) kept →
      IsChoiceOf (held_in told kept) chosen → IsChoice table kept chosen
  choice_of chosen [] standing tables h = tt
  choice_of chosen (k ∷ kept) standing tables h =
      (allowed chosen k kept k.standing standing.0 (λ out. left_out chosen k kept tables.0 tables.1 (h.0 out)), choice_of chosen kept standing.1 tables.1 h.1)

  pub absent_held : (t : ℕ) (kept : List (KeptChange S)) → AllByRecursion (λ u. u ≢ t) (tickets_of kept) → AllByRecursion (λ held. held.ticket ≢ t) (held_in told kept)
  absent_held t [] h = tt
  absent_held t (k ∷ kept) h = (h.0, absent_held t kept h.1)

  -- a flush among the kept changes needs no memory
  flush_needs : (needs : S → Bool) → ((saved : S) → table saved ≡ None → needs saved ≡ false) → (t : ℕ) (kept : List (KeptChange S)) → AllByRecursion (HasTable table told) kept →
      AllByRecursion (λ held. held.ticket ≡ t → table_of held.command ≡ None) (held_in told kept) → AllByRecursion (λ k. k.ticket ≡ t → needs k.saved ≡ false) kept
  flush_needs needs law t [] tables h = tt
  flush_needs needs law t (k ∷ kept) tables h =
      let here : table k.saved ≡ table_of (told k.saved) = tables.0 in
      (λ e. law k.saved (here ∙ h.0 e), flush_needs needs law t kept tables.1 h.1)

not_cleared : (s : Standing) (b : Bool) → s ≡ (if b then Undone else Done) → s ≢ Cleared
not_cleared s true e f = let both : Undone ≡ Cleared = sym e ∙ f in absurd cc
not_cleared s false e f = let both : Done ≡ Cleared = sym e ∙ f in absurd cc

pub none_cleared : {S : Type 0} (table : S → Option ℕ) (changes : Changes S) → AreChanges table changes → AllByRecursion (λ k. k.standing ≢ Cleared) changes.kept
none_cleared table changes are = all_weaker _ _ (λ k e. not_cleared k.standing (is_among changes.undone k.ticket) e) changes.kept are.standings

module _ {W S : Type 0} (by : Ghosts W Tables S Command) (w : W) (changes : Changes S) (bound : ℕ) (past : Past) (are : AreChanges by.table changes) (tied : IsTied by w changes bound past) where
  pub held_commands_of : held_in by.told changes.kept ≡ commands_of past
  held_commands_of = held_commands by.table by.told changes past are tied.done tied.undone tied.given

  pub tables_kept : AllByRecursion (HasTable by.table by.told) changes.kept
  tables_kept = have_tables by.table by.told changes.kept tied.tables

  -- a face is what a replay of the log gives
  pub face_is : (chosen : ℕ → Bool) → IsChoice by.table changes.kept chosen → IsFair changes (is_struck past.marks) chosen → IsSameAt past.now (by.face w changes.kept chosen) (face_of chosen past.log)
  face_is chosen choice fair =
      let shown : IsSame (face_by by.has_cells chosen empty_face (deeds_of past.log)) (face_of chosen past.log)
      = subst (λ (b : Bool). IsSame (face_by b chosen empty_face (deeds_of past.log)) (face_of chosen past.log)) (sym tied.cells) (deeds_show chosen past.log) in
      same_at_then (tied.stands.faces chosen choice fair) (same_at past.now (face_by by.has_cells chosen empty_face (deeds_of past.log)) (face_of chosen past.log) shown)

  -- so it shows of a question what the replay does
  pub face_shows : (t : ℕ) (chosen : ℕ → Bool) → past.now ≤ t → IsChoice by.table changes.kept chosen → IsFair changes (is_struck past.marks) chosen →
      (q : Question) → alive_at t ((by.face w changes.kept chosen).cell q) ≡ alive_at t ((face_of chosen past.log).cell q)
  face_shows t chosen less choice fair q = (same_at_later past.now t (by.face w changes.kept chosen) (face_of chosen past.log) less (face_is chosen choice fair)).cell q

  -- ---- what is alive in a version is alive in a face

  pub alive_in_face : (t : ℕ) (pair : Labels × Scope) → past.now ≤ t → IsAliveInVersion past t pair → IsAliveIn by.table by.face w changes.kept t pair
  alive_in_face t pair less alive =
      let chosen = alive.chosen in
      let choice : IsChoice by.table changes.kept chosen
      = choice_of by.table by.told chosen changes.kept (none_cleared by.table changes are) tables_kept
      (subst (λ (l : List Journalled). IsChoiceOf l chosen) (sym held_commands_of) alive.version.journal) in
      let fair : IsFair changes (is_struck past.marks) chosen
      = λ ticket given absent. alive.version.others ticket
      (subst (λ (l : List Journalled). AllByRecursion (λ held. held.ticket ≢ ticket) l) held_commands_of (absent_held by.table by.told ticket changes.kept absent)) in
      record {
        chosen = chosen;
        choice = choice;
        question = alive.question;
        held = alive.held;
        alive = face_shows t chosen less choice fair alive.question ∙ alive.alive;
        same = alive.same;
      }

  pub all_alive : (pairs : List (Labels × Scope)) → AllByRecursion (IsAliveInVersion past past.now) pairs → AllByRecursion (IsAliveIn by.table by.face w changes.kept past.now) pairs
  all_alive pairs all = all_weaker (IsAliveInVersion past past.now) (IsAliveIn by.table by.face w changes.kept past.now) (λ pair alive. alive_in_face past.now pair (omega arith) alive) pairs all

  -- ---- an undo or a redo of a flush

  pub no_memory : ((saved : S) → by.table saved ≡ None → by.needs_memory saved ≡ false) → (t : ℕ) → IsFlush past t → AllByRecursion (λ k. k.ticket ≡ t → by.needs_memory k.saved ≡ false) changes.kept
  no_memory law t flush =
      flush_needs by.table by.told by.needs_memory law t changes.kept tables_kept
      (subst (λ (l : List Journalled). AllByRecursion (λ held. held.ticket ≡ t → table_of held.command ≡ None) l) (sym held_commands_of) flush)

  -- nor does the undo of a command that removed nothing
  pub undo_needs_none : ((saved : S) → by.table saved ≡ None → by.needs_memory saved ≡ false) → (t : ℕ) → IsFlush past t ⊎ (undo_may_need by changes t ≡ false) → UndoNeedsNone by.needs_memory changes.kept t
  undo_needs_none law t (inl flush) =
      all_weaker (λ k. k.ticket ≡ t → by.needs_memory k.saved ≡ false) (λ k. k.ticket ≡ t → k.standing ≡ Done → by.needs_memory k.saved ≡ false) (λ k free own done. free own) changes.kept (no_memory law t flush)
  undo_needs_none law t (inr none) = no_need by.needs_memory by.needs_memory_after changes.kept t none

  pub undo_free : ((saved : S) → by.table saved ≡ None → by.needs_memory saved ≡ false) → (t : ℕ) → last_of past.marks.done ≡ Some t → IsFlush past t ⊎ (undo_may_need by changes t ≡ false) →
      (ticket : ℕ) × (last_of (done_of changes) ≡ Some ticket) × UndoNeedsNone by.needs_memory changes.kept ticket
  undo_free law t last free = (t, ap last_of tied.done ∙ last, undo_needs_none law t free)

  pub redo_free : ((saved : S) → by.table saved ≡ None → by.needs_memory saved ≡ false) → (t : ℕ) → last_of past.marks.undone ≡ Some t → IsFlush past t →
      (ticket : ℕ) × (last_of changes.undone ≡ Some ticket) × NeedsNone by.needs_memory changes.kept ticket
  redo_free law t last flush = (t, ap last_of tied.undone ∙ last, no_memory law t flush)
