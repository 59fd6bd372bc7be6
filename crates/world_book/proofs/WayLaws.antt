-- What is in the way of an undo or a redo of a ticket is the same in a journal and in the past that it comes to.
use Rattle.std.proofs.Common.{◌≡◌, ◌≢◌, ℕ, Bool, true, false, Option, Some, None, List, [], ◌∷◌, refl, sym, ap, ◌∙◌, inl, inr}
use Rattle.std.specs.Prelude.{filter, nat_lt, not, ◌==◌, ◌&&◌}
use Rattle.std.specs.List.{AllByRecursion}
use Rattle.std.proofs.lemmas.Bool.{cases_Bool}
use Rattle.change_law.specs.declared.kept.KeptChange.{KeptChange}
use Rattle.change_law.specs.declared.kept.Standing.{Standing}
use Rattle.change_law.specs.declared.kept.Standing.TheVariants.{Done, Undone, Cleared}
use Rattle.change_law.specs.Choice.{is_done}
use Rattle.undo_journal.specs.declared.outcome.Outcome.{Outcome}
use Rattle.undo_journal.specs.declared.outcome.Outcome.TheVariants.{Moved, NotKept, Buried}
use Rattle.undo_journal.specs.Journal.{AreChanges, Changes, IsTurnOf, done_of, first_of, in_way, is_one_table, last_of, lies_in_way, table_at, tickets_of, told_of, turnable}
use Rattle.world_book.specs.Course.{moved_by}
use Rattle.history.specs.declared.event.Command.{Command}
use Rattle.history.specs.declared.event.Journalled.{Journalled}
use Rattle.history.specs.Journal.{commands_of, is_among, over, table_of, table_at as command_table_at, tickets_of as command_tickets, under}
use Rattle.history.specs.Marks.{last_of as last_marked}
use Rattle.history.specs.History.{Past, unless_buried}
use Rattle.history.specs.declared.event.Settings.{Settings}
use Rattle.history.specs.Reply.{reply_of, reply_to_redo_of, reply_to_undo_of}
use Rattle.world_book.specs.Held.{held_in, held_one}
use Rattle.world_book.specs.Tied.{AreGiven, tables_told}
use Rattle.world_book.specs.Turned.{command_in_way, command_lies_in_way, marks_from, reply_to_turn, reply_to_turn_of, turn_event, turn_of_event, turn_told}
use Rattle.world_book.proofs.HeldLaws.{held_commands}

abbrev first_table : List (ℕ × Option ℕ) → Option ℕ
first_table [] = None
first_table (one ∷ ones) = one.1

abbrev other_tables : List (ℕ × Option ℕ) → List (ℕ × Option ℕ)
other_tables [] = []
other_tables (one ∷ ones) = ones

module _ {S : Type 0} (table : S → Option ℕ) (told : S → Command) where
  abbrev pub HasTable : KeptChange S → Type 0
  HasTable k = table k.saved ≡ table_of (told k.saved)

  pub have_tables : (kept : List (KeptChange S)) → told_of table kept ≡ tables_told (told_of told kept) → AllByRecursion HasTable kept
  have_tables [] e = tt
  have_tables (k ∷ kept) e = (ap first_table e, have_tables kept (ap other_tables e))

  same_table : (kept : List (KeptChange S)) (t : ℕ) → AllByRecursion HasTable kept → table_at table kept t ≡ command_table_at (held_in told kept) t
  same_table [] t h = refl
  same_table (k ∷ kept) t h =
      elim (cases_Bool (k.ticket == t)) [ inl same ↦ rw same h.0 | inr other ↦ rw other (same_table kept t h.1) ]

  -- what a test picks of the kept changes, another picks of their commands
  same_picked : (p : KeptChange S → Bool) (q : Journalled → Bool) (kept : List (KeptChange S)) → AllByRecursion (λ k. p k ≡ q (held_one told k)) kept →
      tickets_of (filter p kept) ≡ command_tickets (filter q (held_in told kept))
  same_picked p q [] h = refl
  same_picked p q (k ∷ kept) h =
      elim (cases_Bool (p k)) [
        | inl yes' ↦ let there : q (held_one told k) ≡ true = sym h.0 ∙ yes' in rw (yes', there) (ap (λ (l : List ℕ). k.ticket ∷ l) (same_picked p q kept h.1))
        | inr no' ↦ let out : q (held_one told k) ≡ false = sym h.0 ∙ no' in rw (no', out) (same_picked p q kept h.1)
      ]

  same_lies : (from : Standing) (t : ℕ) (own own' : Option ℕ) (kept : List (KeptChange S)) → own ≡ own' → AllByRecursion HasTable kept →
      AllByRecursion (λ k. lies_in_way table from t own k ≡ command_lies_in_way from t own' (held_one told k)) kept
  same_lies from t own own' [] e h = tt
  same_lies from t own own' (k ∷ kept) e h = (by from, same_lies from t own own' kept e h.1)
    where
      by : (s : Standing) → lies_in_way table s t own k ≡ command_lies_in_way s t own' (held_one told k)
      by Done = λ i. is_done k.standing && (nat_lt t k.ticket && is_one_table (e i) (h.0 i))
      by Undone = λ i. not (is_done k.standing) && (nat_lt k.ticket t && is_one_table (e i) (h.0 i))
      by Cleared = λ i. not (is_done k.standing) && (nat_lt k.ticket t && is_one_table (e i) (h.0 i))

  way_held : (from : Standing) (kept : List (KeptChange S)) (t : ℕ) → AllByRecursion HasTable kept → in_way table from kept t ≡ command_in_way from (held_in told kept) t
  way_held from kept t h = by from
    where
      picked : (s : Standing) → tickets_of (filter (lies_in_way table s t (table_at table kept t)) kept) ≡
          command_tickets (filter (command_lies_in_way s t (command_table_at (held_in told kept) t)) (held_in told kept))
      picked s = same_picked (lies_in_way table s t (table_at table kept t)) (command_lies_in_way s t (command_table_at (held_in told kept) t)) kept
          (same_lies s t (table_at table kept t) (command_table_at (held_in told kept) t) kept (same_table kept t h) h)

      by : (s : Standing) → in_way table s kept t ≡ command_in_way s (held_in told kept) t
      by Done = ap last_of (picked Done)
      by Undone = ap first_of (picked Undone)
      by Cleared = ap first_of (picked Cleared)

  -- ---- what a turn of a ticket does, by the past

  pub turnable_marked : (from : Standing) (changes : Changes S) (past : Past) → done_of changes ≡ past.marks.done → changes.undone ≡ past.marks.undone → turnable from changes ≡ marks_from from past.marks
  turnable_marked Done changes past done undone = done
  turnable_marked Undone changes past done undone = undone
  turnable_marked Cleared changes past done undone = undone

  pub way_in_past : (from : Standing) (changes : Changes S) (past : Past) (t : ℕ) → AreChanges table changes → done_of changes ≡ past.marks.done → changes.undone ≡ past.marks.undone → AreGiven told changes past →
      told_of table changes.kept ≡ tables_told (told_of told changes.kept) → in_way table from changes.kept t ≡ command_in_way from (commands_of past) t
  way_in_past from changes past t are done undone given tables =
      way_held from changes.kept t (have_tables changes.kept tables) ∙ ap (λ (l : List Journalled). command_in_way from l t) (held_commands table told changes past are done undone given)

  module _ (from : Standing) (changes after : Changes S) (past : Past) (t : ℕ) (outcome : Outcome) (are : AreChanges table changes) (done : done_of changes ≡ past.marks.done) (undone : changes.undone ≡ past.marks.undone)
      (given : AreGiven told changes past) (tables : told_of table changes.kept ≡ tables_told (told_of told changes.kept)) where
    there_past : is_among (turnable from changes) t ≡ is_among (marks_from from past.marks) t
    there_past = ap (λ (l : List ℕ). is_among l t) (turnable_marked from changes past done undone)

    way_past : in_way table from changes.kept t ≡ command_in_way from (commands_of past) t
    way_past = way_in_past from changes past t are done undone given tables

    pub turn_of_moves : IsTurnOf table from changes t outcome after → moved_by outcome t ≡ unless_buried (is_among (marks_from from past.marks) t) (command_in_way from (commands_of past) t) t
    unfolding there_past way_past
    turn_of_moves is = by outcome is ∙ (λ i. unless_buried (there_past i) (way_past i) t)
      where
        by : (o : Outcome) → IsTurnOf table from changes t o after → moved_by o t ≡ unless_buried (is_among (turnable from changes) t) (in_way table from changes.kept t) t
        by Moved is = sym (λ i. unless_buried (is.1.reached i) (is.0 i) t)
        by NotKept is = sym (ap (λ (b : Bool). unless_buried b (in_way table from changes.kept t) t) is.0)
        by (Buried other) is = sym (λ i. unless_buried (is.0 i) (is.1 i) t)

    pub turn_of_told : IsTurnOf table from changes t outcome after → turn_told from outcome t ≡ reply_to_turn_of from (is_among (marks_from from past.marks) t) (command_in_way from (commands_of past) t) t
    unfolding there_past way_past
    turn_of_told is = by outcome is ∙ (λ i. reply_to_turn_of from (there_past i) (way_past i) t)
      where
        by : (o : Outcome) → IsTurnOf table from changes t o after → turn_told from o t ≡ reply_to_turn_of from (is_among (turnable from changes) t) (in_way table from changes.kept t) t
        by Moved is = sym (λ i. reply_to_turn_of from (is.1.reached i) (is.0 i) t)
        by NotKept is = sym (ap (λ (b : Bool). reply_to_turn_of from b (in_way table from changes.kept t) t) is.0)
        by (Buried other) is = sym (λ i. reply_to_turn_of from (is.0 i) (is.1 i) t)

-- ---- the replies of a past

reply_of_undo : (there : Bool) (other : Option ℕ) (t : ℕ) → reply_to_undo_of there other t ≡ reply_to_turn_of Done there other t
reply_of_undo false other t = refl
reply_of_undo true (Some other) t = refl
reply_of_undo true None t = refl

reply_of_redo : (there : Bool) (other : Option ℕ) (t : ℕ) → reply_to_redo_of there other t ≡ reply_to_turn_of Undone there other t
reply_of_redo false other t = refl
reply_of_redo true (Some other) t = refl
reply_of_redo true None t = refl

pub turn_reply : (from : Standing) (settings : Settings) (past : Past) (moment : ℕ) → reply_of settings past (turn_event from moment) ≡ reply_to_turn from (last_marked (marks_from from past.marks))
turn_reply Done settings past moment = refl
turn_reply Undone settings past moment = refl
turn_reply Cleared settings past moment = refl

pub turn_of_reply : (from : Standing) → from ≢ Cleared → (settings : Settings) (past : Past) (moment t : ℕ) →
    reply_of settings past (turn_of_event from t moment) ≡ reply_to_turn_of from (is_among (marks_from from past.marks) t) (command_in_way from (commands_of past) t) t
turn_of_reply Done live settings past moment t = reply_of_undo (is_among past.marks.done t) (over (commands_of past) t) t
turn_of_reply Undone live settings past moment t = reply_of_redo (is_among past.marks.undone t) (under (commands_of past) t) t
turn_of_reply Cleared live settings past moment t = absurd (live refl)
