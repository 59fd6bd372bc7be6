-- What is read of the store, if one kept change stood the other way: a change of the tables moves no cell, and a flush moves no table.
use Rattle.std.proofs.Common.{◌≡◌, ℕ, Bool, Option, List, ◌∷◌, ◌++◌, sym, ap, subst, ◌∙◌}
use Rattle.dns_text.specs.declared.record.Question.{Question}
use Rattle.dns_text.specs.declared.record.Record.{Record}
use Rattle.ranked.specs.declared.cell.Admitted.{Admitted}
use Rattle.ranked.specs.declared.cell.Shown.{Shown}
use Rattle.ranked.specs.declared.find.Find.{Find}
use Rattle.ranked.specs.Cell.{shown_at}
use Rattle.local_zone.specs.declared.local_answer.Local.{Local}
use Rattle.local_zone.specs.Answer.{local_of}
use Rattle.change_law.specs.declared.kept.KeptChange.{KeptChange}
use Rattle.change_law.specs.declared.kept.Standing.{Standing}
use Rattle.change_law.specs.Choice.{IsPresent, turned}
use Rattle.change_law.specs.Row.{kept_as}
use Rattle.change_law.specs.Turn.{HoldsOver}
use Rattle.history.specs.declared.event.Seen.{Seen}
use Rattle.history.specs.declared.tables.Tables.{Tables}
use Rattle.history.specs.Reply.{seen_by, seen_first}
use Rattle.table_changes.specs.Part.{part}
use Rattle.table_changes.specs.PartLaws.{part_at, part_past, part_present}
use Rattle.table_changes.specs.Both.{saved_table, KeepsBoth}
use Rattle.table_changes.specs.Both as tables
use Rattle.table_changes.specs.BothLaws.{shows_both}
use Rattle.table_changes.specs.declared.tables.SavedTable.{SavedTable}
use Rattle.world_book.specs.Deeds.{answer_in}
use Rattle.store.specs.World.{shows_over, shown_face, KeepsFlushes}
use Rattle.store.specs.World as cells
use Rattle.store.specs.WorldLaws.{shows_present}
use Rattle.store.specs.declared.world.SavedFlush.{SavedFlush}
use Rattle.store.specs.declared.store.WayBack.TheVariants as way
use Rattle.store.specs.declared.store.SavedChange.{SavedChange}
use Rattle.store.specs.declared.store.Store.{Store}
use Rattle.store.specs.Store.{flush_way, of_cells, of_tables, store_face, store_table, table_way, KeepsStore}
use Rattle.store.specs.StoreLaws.{flush_turnable, no_table, table_turnable}

module _ (x : Store) (saved : SavedChange) (q : Question) (m : ℕ) (seen : Seen) where
  -- a change of the tables
  module _ (s : SavedTable) (e : saved.way ≡ way.Table s) (answer : Local (List Record) Record) (is : seen ≡ seen_first answer (seen_by (shown_at ((shown_face x.cells).cell q) m))) where
    at_tables : (from to : Standing) (earlier : List (KeptChange SavedChange)) (ticket : ℕ) (later : List (KeptChange SavedChange)) (chosen : ℕ → Bool) → KeepsStore x (earlier ++ kept_as from ticket saved ∷ later)
        → IsPresent (earlier ++ kept_as to ticket saved ∷ later) chosen
        → answer ≡ local_of (tables.face_by x.tables (part of_tables earlier ++ kept_as from ticket s ∷ part of_tables later) chosen).tables.local q
        → seen ≡ answer_in (store_face x (earlier ++ kept_as from ticket saved ∷ later) chosen) q m
    at_tables from to earlier ticket later chosen kept present here =
        let now = earlier ++ kept_as from ticket saved ∷ later in
        let apart = ap flush_way e in
        let same : part of_cells (earlier ++ kept_as to ticket saved ∷ later) ≡ part of_cells now = part_past of_cells earlier to ticket saved later apart ∙ sym (part_past of_cells earlier from ticket saved later apart) in
        let still = subst (λ (l : List (KeptChange SavedFlush)). IsPresent l chosen) same (part_present of_cells (earlier ++ kept_as to ticket saved ∷ later) chosen present) in
        is
        ∙ ap (λ (a : Local (List Record) Record). seen_first a (seen_by (shown_at ((shown_face x.cells).cell q) m)))
        (here ∙ ap (λ (l : List (KeptChange SavedTable)). local_of (tables.face_by x.tables l chosen).tables.local q) (sym (part_at of_tables earlier from ticket saved later s (ap table_way e))))
        ∙ ap (λ (c : Option (Admitted Find)). seen_first (local_of (tables.face_by x.tables (part of_tables now) chosen).tables.local q) (seen_by (shown_at c m)))
        (sym ((shows_present x.cells (part of_cells now) chosen kept.1 still).cell q))

    pub table_over : HoldsOver saved_table KeepsBoth tables.face_by x.tables s (λ face. answer ≡ local_of face.tables.local q) → HoldsOver store_table KeepsStore store_face x saved (λ face. seen ≡ answer_in face q m)
    table_over over = λ from earlier ticket later at chosen present.
        at_tables from (turned from) earlier ticket later chosen at.kept present
        (over from (part of_tables earlier) ticket (part of_tables later) (table_turnable x from earlier ticket saved later s e at) chosen
        (subst (λ (l : List (KeptChange SavedTable)). IsPresent l chosen) (part_at of_tables earlier (turned from) ticket saved later s (ap table_way e)) (part_present of_tables (earlier ++ kept_as (turned from) ticket saved ∷ later) chosen present)))

  -- a flush
  module _ (s : SavedFlush) (e : saved.way ≡ way.Flush s) (is : seen ≡ seen_first (local_of x.tables.tables.local q) (seen_by (shows_over x.cells s m q))) where
    at_cells : (from to : Standing) (earlier : List (KeptChange SavedChange)) (ticket : ℕ) (later : List (KeptChange SavedChange)) (chosen : ℕ → Bool)
        → IsPresent (earlier ++ kept_as to ticket saved ∷ later) chosen
        → shows_over x.cells s m q ≡ shown_at ((cells.face_by x.cells (part of_cells earlier ++ kept_as from ticket s ∷ part of_cells later) chosen).cell q) m
        → seen ≡ answer_in (store_face x (earlier ++ kept_as from ticket saved ∷ later) chosen) q m
    at_cells from to earlier ticket later chosen present here =
        let now = earlier ++ kept_as from ticket saved ∷ later in
        let apart = ap table_way e in
        let same : part of_tables (earlier ++ kept_as to ticket saved ∷ later) ≡ part of_tables now = part_past of_tables earlier to ticket saved later apart ∙ sym (part_past of_tables earlier from ticket saved later apart) in
        let still = subst (λ (l : List (KeptChange SavedTable)). IsPresent l chosen) same (part_present of_tables (earlier ++ kept_as to ticket saved ∷ later) chosen present) in
        is
        ∙ ap (λ (o : Option (Shown Find)). seen_first (local_of x.tables.tables.local q) (seen_by o))
        (here ∙ ap (λ (l : List (KeptChange SavedFlush)). shown_at ((cells.face_by x.cells l chosen).cell q) m) (sym (part_at of_cells earlier from ticket saved later s (ap flush_way e))))
        ∙ ap (λ (t : Tables). seen_first (local_of t.local q) (seen_by (shown_at ((cells.face_by x.cells (part of_cells now) chosen).cell q) m)))
        (sym (shows_both x.tables (part of_tables now) chosen still).tables)

    pub flush_over : HoldsOver no_table KeepsFlushes cells.face_by x.cells s (λ face. shows_over x.cells s m q ≡ shown_at (face.cell q) m) → HoldsOver store_table KeepsStore store_face x saved (λ face. seen ≡ answer_in face q m)
    flush_over over = λ from earlier ticket later at chosen present.
        at_cells from (turned from) earlier ticket later chosen present
        (over from (part of_cells earlier) ticket (part of_cells later) (flush_turnable x from earlier ticket saved later s e at) chosen
        (subst (λ (l : List (KeptChange SavedFlush)). IsPresent l chosen) (part_at of_cells earlier (turned from) ticket saved later s (ap flush_way e)) (part_present of_cells (earlier ++ kept_as (turned from) ticket saved ∷ later) chosen present)))
