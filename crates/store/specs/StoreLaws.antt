-- The row of the store, by the rows of its parts: lemmas.
use Rattle.std.proofs.Common.{◌≡◌, ℕ, Bool, true, false, Option, Some, None, List, [], ◌∷◌, ◌++◌, refl, sym, ap, subst, ◌∙◌, arith}
use Rattle.std.specs.List.{AllByRecursion}
use Rattle.dns_name.specs.Labels.{Labels}
use Rattle.dns_name.specs.ListLaws.{all_weaker}
use Rattle.dns_text.specs.declared.record.Question.{Question}
use Rattle.ranked.specs.declared.cell.Fate.{Fate}
use Rattle.ranked.specs.declared.find.Find.{Find}
use Rattle.ranked.specs.declared.find.Scope.{Scope}
use Rattle.ranked.specs.declared.find.Scope.TheVariants.{One, Whole}
use Rattle.change_law.specs.declared.kept.KeptChange.{KeptChange}
use Rattle.change_law.specs.declared.kept.Standing.{Standing}
use Rattle.change_law.specs.declared.kept.Standing.TheVariants.{Done, Cleared}
use Rattle.change_law.specs.Choice.{IsPresent, cleared, turned}
use Rattle.change_law.specs.Effect.{effect}
use Rattle.change_law.specs.Face.{Face, IsSame, face_with, face_without, fate_in}
use Rattle.change_law.specs.Pairs.{IsAliveIn}
use Rattle.change_law.specs.Row.{IsRowAfter, IsEachRow, IsEachRowFrom, IsSameRow, IsMade, IsTurnable, CanTurn, Turns, any, same_face, where_chosen, kept_as}
use Rattle.history.specs.declared.event.Command.{Command}
use Rattle.history.specs.declared.tables.Tables.{Tables}
use Rattle.table_changes.specs.Part.{part}
use Rattle.table_changes.specs.PartLaws.{part_at}
use Rattle.table_changes.specs.Both.{saved_table, shown_tables, KeepsBoth}
use Rattle.table_changes.specs.Both as tables
use Rattle.table_changes.specs.BothLaws.{clears_both, shows_both}
use Rattle.table_changes.specs.declared.tables.SavedTable.{SavedTable}
use Rattle.table_changes.specs.declared.tables.SavedTable.TheVariants as saved_by
use Rattle.store.specs.SumLaws.{choice_part, sum_same, sum_clears, sum_shows, sum_admitted, sum_swept, sum_forgot, first_made, second_made, first_moved, second_moved, first_gone, second_gone, next_part, turnable_part, part_can_turn, row_still}
use Rattle.store.specs.World.{KeepsFlushes, shown_face}
use Rattle.store.specs.World as cells
use Rattle.store.specs.WorldLaws.{shows_present, clears_by_word}
use Rattle.store.specs.declared.world.SavedFlush.{SavedFlush}
use Rattle.store.specs.declared.store.WayBack.{WayBack}
use Rattle.store.specs.declared.store.WayBack.TheVariants as way
use Rattle.store.specs.declared.store.SavedChange.{SavedChange}
use Rattle.store.specs.declared.store.Store.{Store}
use Rattle.store.specs.Store.{tables_in, cells_in, table_way, flush_way, of_tables, of_cells, table_of, needs_memory_of, store_table, KeepsStore, store_face, store_shown}

-- ---- the tables of the parts

abbrev pub no_table : SavedFlush → Option ℕ
no_table saved = None

way_of_tables : (w : WayBack) (s : SavedTable) → table_way w ≡ Some s → table_of w ≡ saved_table s
way_of_tables (way.Table saved) s e = cc
way_of_tables (way.Flush saved) s e = absurd cc

way_of_cells : (w : WayBack) (s : SavedFlush) → flush_way w ≡ Some s → table_of w ≡ None
way_of_cells (way.Table saved) s e = absurd cc
way_of_cells (way.Flush saved) s e = refl

pub tables_agree : (saved : SavedChange) (s : SavedTable) → of_tables saved ≡ Some s → store_table saved ≡ saved_table s
tables_agree saved s e = way_of_tables saved.way s e

pub cells_agree : (saved : SavedChange) (s : SavedFlush) → of_cells saved ≡ Some s → store_table saved ≡ no_table s
cells_agree saved s e = way_of_cells saved.way s e

pub flush_needs_none : (w : WayBack) → table_of w ≡ None → needs_memory_of w ≡ false
flush_needs_none (way.Table saved) none = absurd (some_table saved none)
  where
    some_table : (saved : SavedTable) → saved_table saved ≡ None → ⊥
    some_table (saved_by.Zones s) none = absurd cc
    some_table (saved_by.Stubs s) none = absurd cc
flush_needs_none (way.Flush saved) none = refl

-- ---- what is alive in a face is so in that of the cells

pub store_alive : (x : Store) (kept : List (KeptChange SavedChange)) (t : ℕ) (pair : Labels × Scope) → IsAliveIn store_table store_face x kept t pair →
    IsAliveIn no_table cells.face_by x.cells (part of_cells kept) t pair
store_alive x kept t pair is = record {
  chosen = is.chosen;
  choice = choice_part of_cells store_table no_table cells_agree kept is.chosen is.choice;
  question = is.question;
  held = is.held;
  alive = is.alive;
  same = is.same;
}

pub all_store_alive : (x : Store) (kept : List (KeptChange SavedChange)) (t : ℕ) (pairs : List (Labels × Scope)) → AllByRecursion (IsAliveIn store_table store_face x kept t) pairs →
    AllByRecursion (IsAliveIn no_table cells.face_by x.cells (part of_cells kept) t) pairs
all_store_alive x kept t pairs all =
    all_weaker (IsAliveIn store_table store_face x kept t) (IsAliveIn no_table cells.face_by x.cells (part of_cells kept) t) (λ pair is. store_alive x kept t pair is) pairs all

-- ---- the laws of the world

pub clears_store : (x : Store) (kept : List (KeptChange SavedChange)) → KeepsStore x kept → IsRowAfter store_table KeepsStore store_face same_face any x kept x (cleared kept)
clears_store = sum_clears tables_in cells_in of_tables of_cells store_table saved_table no_table tables_agree cells_agree KeepsBoth KeepsFlushes tables.face_by cells.face_by clears_both clears_by_word

pub shows_store : (x : Store) (kept : List (KeptChange SavedChange)) (chosen : ℕ → Bool) → KeepsStore x kept → IsPresent kept chosen → IsSame (store_face x kept chosen) (store_shown x)
shows_store = sum_shows tables_in cells_in of_tables of_cells store_table saved_table no_table tables_agree cells_agree KeepsBoth KeepsFlushes tables.face_by cells.face_by shown_tables shown_face (λ world kept chosen h present. shows_both world kept chosen present) shows_present

-- ---- where only one part changes

pub tables_same_row : (x x' : Store) → x'.cells ≡ x.cells → IsSameRow saved_table KeepsBoth tables.face_by x.tables x'.tables → IsSameRow store_table KeepsStore store_face x x'
tables_same_row x x' stays same = λ kept h.
    sum_same tables_in cells_in of_tables of_cells store_table saved_table no_table tables_agree cells_agree KeepsBoth KeepsFlushes tables.face_by cells.face_by any any any (λ chosen p. tt) (λ chosen p. tt) x x' kept kept
    (same (part of_tables kept) h.0)
    (row_still no_table KeepsFlushes cells.face_by x.cells x'.cells (part of_cells kept) (part of_cells kept) stays refl h.1)

pub cells_same_row : (x x' : Store) → x'.tables ≡ x.tables → IsSameRow no_table KeepsFlushes cells.face_by x.cells x'.cells → IsSameRow store_table KeepsStore store_face x x'
cells_same_row x x' stays same = λ kept h.
    sum_same tables_in cells_in of_tables of_cells store_table saved_table no_table tables_agree cells_agree KeepsBoth KeepsFlushes tables.face_by cells.face_by any any any (λ chosen p. tt) (λ chosen p. tt) x x' kept kept
    (row_still saved_table KeepsBoth tables.face_by x.tables x'.tables (part of_tables kept) (part of_tables kept) stays refl h.0)
    (same (part of_cells kept) h.1)

-- ---- admissions, sweeps and forgets

same_fate : (face : Face (Unit {0})) (t : Tables) (find : Find) (moment : ℕ) (scope : Scope) → fate_in face find moment scope ≡ fate_in (record { tables = t; cell = face.cell }) find moment scope
same_fate face t find moment (One kind) = refl
same_fate face t find moment Whole = refl

pub store_fate : (x : Store) (find : Find) (moment : ℕ) (fate : Fate) → fate ≡ fate_in (shown_face x.cells) find moment find.scope → fate ≡ fate_in (store_shown x) find moment find.scope
store_fate x find moment fate e = e ∙ same_fate (shown_face x.cells) x.tables.tables find moment find.scope

pub store_admitted : (x x' : Store) (find : Find) (moment : ℕ) → x'.tables ≡ x.tables →
    IsEachRowFrom no_table KeepsFlushes cells.face_by moment (face_with true find moment) x.cells x'.cells →
    IsEachRowFrom store_table KeepsStore store_face moment (face_with true find moment) x x'
store_admitted x x' find moment stays row = λ kept h. sum_admitted tables_in cells_in of_tables of_cells store_table saved_table no_table tables_agree cells_agree KeepsBoth KeepsFlushes tables.face_by cells.face_by find moment x x' kept stays h (row (part of_cells kept) h.1)

pub store_swept : (x x' : Store) (moment : ℕ) → x'.tables ≡ x.tables →
    IsEachRowFrom no_table KeepsFlushes cells.face_by moment (λ f. f) x.cells x'.cells → IsEachRowFrom store_table KeepsStore store_face moment (λ f. f) x x'
store_swept x x' moment stays row = λ kept h. sum_swept tables_in cells_in of_tables of_cells store_table saved_table no_table tables_agree cells_agree KeepsBoth KeepsFlushes tables.face_by cells.face_by moment x x' kept stays h (row (part of_cells kept) h.1)

pub store_forgot : (x x' : Store) (owner : Labels) → x'.tables ≡ x.tables →
    IsEachRow no_table KeepsFlushes cells.face_by (face_without true owner) x.cells x'.cells → IsEachRow store_table KeepsStore store_face (face_without true owner) x x'
store_forgot x x' owner stays row = λ kept h. sum_forgot tables_in cells_in of_tables of_cells store_table saved_table no_table tables_agree cells_agree KeepsBoth KeepsFlushes tables.face_by cells.face_by owner x x' kept stays h (row (part of_cells kept) h.1)

-- ---- a change more

pub table_made : (x x' : Store) (command : Command) (ticket : ℕ) (after : Tables → Tables) (saved : SavedTable) → x'.cells ≡ x.cells →
    IsMade saved_table KeepsBoth tables.face_by (λ w. 0) (where_chosen ticket (effect after (λ q. false))) ticket saved x.tables x'.tables →
    IsMade store_table KeepsStore store_face (λ s. s.cells.top) (where_chosen ticket (effect after (λ q. false))) ticket (record { command = command; way = way.Table saved }) x x'
table_made x x' command ticket after saved stays made = λ kept h next newest.
    first_made tables_in cells_in of_tables of_cells store_table saved_table no_table tables_agree cells_agree KeepsBoth KeepsFlushes tables.face_by cells.face_by clears_by_word after (λ q. false) (λ q. false) (λ q. refl) x x' kept ticket (record { command = command; way = way.Table saved }) saved refl refl stays h
    (made (part of_tables kept) h.0 (next_part of_tables store_table saved_table tables_agree ticket kept next) (omega (arith, newest)))

pub flush_made : (x x' : Store) (command : Command) (ticket : ℕ) (empties : Question → Bool) (saved : SavedFlush) → x'.tables ≡ x.tables →
    IsMade no_table KeepsFlushes cells.face_by (λ w. w.top) (where_chosen ticket (effect (λ t. t) empties)) ticket saved x.cells x'.cells →
    IsMade store_table KeepsStore store_face (λ s. s.cells.top) (where_chosen ticket (effect (λ t. t) empties)) ticket (record { command = command; way = way.Flush saved }) x x'
flush_made x x' command ticket empties saved stays made = λ kept h next newest.
    second_made tables_in cells_in of_tables of_cells store_table saved_table no_table tables_agree cells_agree KeepsBoth KeepsFlushes tables.face_by cells.face_by clears_both (λ t. t) (λ t. t) empties (λ t. refl) x x' kept ticket (record { command = command; way = way.Flush saved }) saved refl refl stays h
    (made (part of_cells kept) h.1 (next_part of_cells store_table no_table cells_agree ticket kept next) newest)

-- ---- a change that is undone or redone

pub same_table : (saved : SavedChange) (s s' : SavedTable) → saved.way ≡ way.Table s → s' ≡ s → ◌≡◌ {A = SavedChange} (record { command = saved.command; way = way.Table s' }) saved
same_table saved s s' e same = ap (λ (w : WayBack). record { command = saved.command; way = w }) (ap (λ (t : SavedTable). way.Table t) same ∙ sym e)

pub table_turnable : (x : Store) (from : Standing) (earlier : List (KeptChange SavedChange)) (ticket : ℕ) (saved : SavedChange) (later : List (KeptChange SavedChange)) (s : SavedTable) → saved.way ≡ way.Table s →
    IsTurnable store_table KeepsStore from x earlier ticket saved later → IsTurnable saved_table KeepsBoth from x.tables (part of_tables earlier) ticket s (part of_tables later)
table_turnable x from earlier ticket saved later s e at = turnable_part of_tables store_table saved_table tables_agree KeepsStore KeepsBoth x x.tables (λ kept keeps. keeps.0) from earlier ticket saved later s (ap table_way e) at

pub table_can_turn : (x : Store) (from : Standing) (saved : SavedChange) (s : SavedTable) → saved.way ≡ way.Table s → CanTurn store_table KeepsStore from x saved → CanTurn saved_table KeepsBoth from x.tables s
table_can_turn x from saved s e r = part_can_turn of_tables store_table saved_table tables_agree KeepsStore KeepsBoth x x.tables (λ kept keeps. keeps.0) from saved s (ap table_way e) r

pub table_turns : (x x' : Store) (from : Standing) (saved saved' : SavedChange) (s s' : SavedTable) → saved.way ≡ way.Table s → saved'.way ≡ way.Table s' → x'.cells ≡ x.cells →
    Turns saved_table KeepsBoth tables.face_by from x.tables s x'.tables s' → Turns store_table KeepsStore store_face from x saved x' saved'
table_turns x x' from saved saved' s s' e e' stays turns = λ earlier ticket later at.
    first_moved tables_in cells_in of_tables of_cells store_table saved_table no_table tables_agree cells_agree KeepsBoth KeepsFlushes tables.face_by cells.face_by x x' earlier from (turned from) ticket saved saved' later s s' (ap table_way e) (ap table_way e') (ap flush_way e) (ap flush_way e') stays at.kept
    (turns (part of_tables earlier) ticket (part of_tables later) (table_turnable x from earlier ticket saved later s e at))

pub flush_turnable : (x : Store) (from : Standing) (earlier : List (KeptChange SavedChange)) (ticket : ℕ) (saved : SavedChange) (later : List (KeptChange SavedChange)) (s : SavedFlush) → saved.way ≡ way.Flush s →
    IsTurnable store_table KeepsStore from x earlier ticket saved later → IsTurnable no_table KeepsFlushes from x.cells (part of_cells earlier) ticket s (part of_cells later)
flush_turnable x from earlier ticket saved later s e at = turnable_part of_cells store_table no_table cells_agree KeepsStore KeepsFlushes x x.cells (λ kept keeps. keeps.1) from earlier ticket saved later s (ap flush_way e) at

pub flush_can_turn : (x : Store) (from : Standing) (saved : SavedChange) (s : SavedFlush) → saved.way ≡ way.Flush s → CanTurn store_table KeepsStore from x saved → CanTurn no_table KeepsFlushes from x.cells s
flush_can_turn x from saved s e r = part_can_turn of_cells store_table no_table cells_agree KeepsStore KeepsFlushes x x.cells (λ kept keeps. keeps.1) from saved s (ap flush_way e) r

pub flush_turns : (x x' : Store) (from : Standing) (saved saved' : SavedChange) (s s' : SavedFlush) → saved.way ≡ way.Flush s → saved'.way ≡ way.Flush s' → x'.tables ≡ x.tables →
    Turns no_table KeepsFlushes cells.face_by from x.cells s x'.cells s' → Turns store_table KeepsStore store_face from x saved x' saved'
flush_turns x x' from saved saved' s s' e e' stays turns = λ earlier ticket later at.
    second_moved tables_in cells_in of_tables of_cells store_table saved_table no_table tables_agree cells_agree KeepsBoth KeepsFlushes tables.face_by cells.face_by x x' earlier from (turned from) ticket saved saved' later s s' (ap flush_way e) (ap flush_way e') (ap table_way e) (ap table_way e') stays at.kept
    (turns (part of_cells earlier) ticket (part of_cells later) (flush_turnable x from earlier ticket saved later s e at))

-- ---- a change that is no longer kept

pub table_settles_oldest : (x x' : Store) (saved : SavedChange) (s : SavedTable) → saved.way ≡ way.Table s → x'.cells ≡ x.cells →
    ((ticket : ℕ) (later : List (KeptChange SavedTable)) → KeepsBoth x.tables (kept_as Done ticket s ∷ later) → IsRowAfter saved_table KeepsBoth tables.face_by same_face (λ chosen. chosen ticket ≡ true) x.tables (kept_as Done ticket s ∷ later) x'.tables later) →
    (ticket : ℕ) (later : List (KeptChange SavedChange)) → KeepsStore x (kept_as Done ticket saved ∷ later) → IsRowAfter store_table KeepsStore store_face same_face (λ chosen. chosen ticket ≡ true) x (kept_as Done ticket saved ∷ later) x' later
table_settles_oldest x x' saved s e stays goes ticket later h =
    first_gone tables_in cells_in of_tables of_cells store_table saved_table no_table tables_agree cells_agree KeepsBoth KeepsFlushes tables.face_by cells.face_by (λ chosen. chosen ticket ≡ true) x x' [] Done ticket saved later s (ap table_way e) (ap flush_way e) stays h
    (goes ticket (part of_tables later) (subst (λ (l : List (KeptChange SavedTable)). KeepsBoth x.tables l) (part_at of_tables [] Done ticket saved later s (ap table_way e)) h.0))

pub table_settles_cleared : (x x' : Store) (saved : SavedChange) (s : SavedTable) → saved.way ≡ way.Table s → x'.cells ≡ x.cells →
    ((earlier : List (KeptChange SavedTable)) (ticket : ℕ) (later : List (KeptChange SavedTable)) → KeepsBoth x.tables (earlier ++ kept_as Cleared ticket s ∷ later) →
    IsRowAfter saved_table KeepsBoth tables.face_by same_face (λ chosen. chosen ticket ≡ false) x.tables (earlier ++ kept_as Cleared ticket s ∷ later) x'.tables (earlier ++ later)) →
    (earlier : List (KeptChange SavedChange)) (ticket : ℕ) (later : List (KeptChange SavedChange)) → KeepsStore x (earlier ++ kept_as Cleared ticket saved ∷ later) →
    IsRowAfter store_table KeepsStore store_face same_face (λ chosen. chosen ticket ≡ false) x (earlier ++ kept_as Cleared ticket saved ∷ later) x' (earlier ++ later)
table_settles_cleared x x' saved s e stays goes earlier ticket later h =
    first_gone tables_in cells_in of_tables of_cells store_table saved_table no_table tables_agree cells_agree KeepsBoth KeepsFlushes tables.face_by cells.face_by (λ chosen. chosen ticket ≡ false) x x' earlier Cleared ticket saved later s (ap table_way e) (ap flush_way e) stays h
    (goes (part of_tables earlier) ticket (part of_tables later) (subst (λ (l : List (KeptChange SavedTable)). KeepsBoth x.tables l) (part_at of_tables earlier Cleared ticket saved later s (ap table_way e)) h.0))

pub flush_settles_oldest : (x x' : Store) (saved : SavedChange) (s : SavedFlush) → saved.way ≡ way.Flush s → x'.tables ≡ x.tables →
    ((ticket : ℕ) (later : List (KeptChange SavedFlush)) → KeepsFlushes x.cells (kept_as Done ticket s ∷ later) → IsRowAfter no_table KeepsFlushes cells.face_by same_face (λ chosen. chosen ticket ≡ true) x.cells (kept_as Done ticket s ∷ later) x'.cells later) →
    (ticket : ℕ) (later : List (KeptChange SavedChange)) → KeepsStore x (kept_as Done ticket saved ∷ later) → IsRowAfter store_table KeepsStore store_face same_face (λ chosen. chosen ticket ≡ true) x (kept_as Done ticket saved ∷ later) x' later
flush_settles_oldest x x' saved s e stays goes ticket later h =
    second_gone tables_in cells_in of_tables of_cells store_table saved_table no_table tables_agree cells_agree KeepsBoth KeepsFlushes tables.face_by cells.face_by (λ chosen. chosen ticket ≡ true) x x' [] Done ticket saved later s (ap flush_way e) (ap table_way e) stays h
    (goes ticket (part of_cells later) (subst (λ (l : List (KeptChange SavedFlush)). KeepsFlushes x.cells l) (part_at of_cells [] Done ticket saved later s (ap flush_way e)) h.1))

pub flush_settles_cleared : (x x' : Store) (saved : SavedChange) (s : SavedFlush) → saved.way ≡ way.Flush s → x'.tables ≡ x.tables →
    ((earlier : List (KeptChange SavedFlush)) (ticket : ℕ) (later : List (KeptChange SavedFlush)) → KeepsFlushes x.cells (earlier ++ kept_as Cleared ticket s ∷ later) →
    IsRowAfter no_table KeepsFlushes cells.face_by same_face (λ chosen. chosen ticket ≡ false) x.cells (earlier ++ kept_as Cleared ticket s ∷ later) x'.cells (earlier ++ later)) →
    (earlier : List (KeptChange SavedChange)) (ticket : ℕ) (later : List (KeptChange SavedChange)) → KeepsStore x (earlier ++ kept_as Cleared ticket saved ∷ later) →
    IsRowAfter store_table KeepsStore store_face same_face (λ chosen. chosen ticket ≡ false) x (earlier ++ kept_as Cleared ticket saved ∷ later) x' (earlier ++ later)
flush_settles_cleared x x' saved s e stays goes earlier ticket later h =
    second_gone tables_in cells_in of_tables of_cells store_table saved_table no_table tables_agree cells_agree KeepsBoth KeepsFlushes tables.face_by cells.face_by (λ chosen. chosen ticket ≡ false) x x' earlier Cleared ticket saved later s (ap flush_way e) (ap table_way e) stays h
    (goes (part of_cells earlier) ticket (part of_cells later) (subst (λ (l : List (KeptChange SavedFlush)). KeepsFlushes x.cells l) (part_at of_cells earlier Cleared ticket saved later s (ap flush_way e)) h.1))
