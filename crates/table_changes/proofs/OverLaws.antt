-- The local zones and records, if one change that is kept stood the other way.
use Rattle.std.proofs.Common.{◌≡◌, ◌≢◌, ℕ, Bool, Option, Some, None, List, ◌∷◌, ◌++◌, sym, ap, subst, ◌∙◌}
use Rattle.std.specs.Prelude.{IfOk, Result, Ok, Err}
use Rattle.change_law.specs.declared.kept.KeptChange.{KeptChange}
use Rattle.change_law.specs.declared.kept.Standing.{Standing}
use Rattle.change_law.specs.declared.kept.Standing.TheVariants.{Cleared}
use Rattle.change_law.specs.Choice.{IsPresent, turned}
use Rattle.change_law.specs.Row.{kept_as}
use Rattle.change_law.specs.Turn.{HoldsOver}
use Rattle.local_zone.specs.declared.saved.SavedTables.{SavedTables}
use Rattle.local_zone.specs.Saved as zone
use Rattle.local_zone.specs.Tables as local
use Rattle.history.specs.declared.tables.Tables.{Tables}
use Rattle.table_changes.specs.Both.{of_zones, face_by, saved_table, KeepsBoth}
use Rattle.table_changes.specs.Part.{part}
use Rattle.table_changes.specs.PartLaws.{part_at, part_past, part_present}
use Rattle.table_changes.specs.TableRow.{table_by}
use Rattle.table_changes.specs.TableRowLaws.{table_over, table_present}
use Rattle.table_changes.specs.declared.tables.SavedTable.{SavedTable}
use Rattle.table_changes.specs.declared.tables.TableWorld.{TableWorld}

-- the other side of a change of zones and records, or the same tables
abbrev pub over : Option SavedTables → local.Tables → local.Tables
over None t = t
over (Some s) t = zone.before_of s t

module _ (t : local.Tables) (earlier : List (KeptChange SavedTable)) (ticket : ℕ) (saved : SavedTable) (later : List (KeptChange SavedTable)) (chosen : ℕ → Bool) where
  pub zones_over : (from : Standing) → from ≢ Cleared → (p : Option SavedTables) → of_zones saved ≡ p → IsPresent (earlier ++ kept_as (turned from) ticket saved ∷ later) chosen
      → table_by zone.before_of t (part of_zones (earlier ++ kept_as from ticket saved ∷ later)) chosen ≡ over p t
  zones_over from live None e present =
      let here = part_past of_zones earlier (turned from) ticket saved later e in
      ap (λ (x : List (KeptChange SavedTables)). table_by zone.before_of t x chosen) (part_past of_zones earlier from ticket saved later e)
      ∙ table_present zone.before_of t (part of_zones earlier ++ part of_zones later) chosen
      (subst (λ (x : List (KeptChange SavedTables)). IsPresent x chosen) here (part_present of_zones (earlier ++ kept_as (turned from) ticket saved ∷ later) chosen present))
  zones_over from live (Some s) e present =
      let here = part_at of_zones earlier (turned from) ticket saved later s e in
      ap (λ (x : List (KeptChange SavedTables)). table_by zone.before_of t x chosen) (part_at of_zones earlier from ticket saved later s e)
      ∙ table_over zone.before_of t (part of_zones earlier) ticket s (part of_zones later) chosen from live
      (subst (λ (x : List (KeptChange SavedTables)). IsPresent x chosen) here (part_present of_zones (earlier ++ kept_as (turned from) ticket saved ∷ later) chosen present))

-- what is read through the way there is read off the face of the choice in which the change alone stands the other way
pub holds_over : {X E A : Type 0} (w : TableWorld) (saved : SavedTable) (p : Option SavedTables) (read : local.Tables → A) (see : X → A) (r : Result X E) → of_zones saved ≡ p
    → IfOk r (λ x. see x ≡ read (over p w.tables.local))
    → IfOk r (λ x. HoldsOver saved_table KeepsBoth face_by w saved (λ face. see x ≡ read face.tables.local))
holds_over w saved p read see (Ok x) e is =
    λ from earlier ticket later at chosen present. is ∙ ap read (sym (zones_over w.tables.local earlier ticket saved later chosen from at.live p e present))
holds_over w saved p read see (Err x) e is = tt
