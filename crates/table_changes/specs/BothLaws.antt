-- Both tables with what is in effect, and with what is cleared: lemmas.
use Rattle.std.proofs.Common.{◌≡◌, ◌≤◌, ℕ, arith, Bool, Some, None, List, refl, sym, ap, subst, ◌∙◌}
use Rattle.change_law.specs.declared.kept.KeptChange.{KeptChange}
use Rattle.change_law.specs.Choice.{IsChoice, IsPresent, cleared}
use Rattle.change_law.specs.Face.{IsSame}
use Rattle.change_law.specs.Row.{IsRowAfter, any, same_face}
use Rattle.local_zone.specs.declared.saved.SavedTables.{SavedTables}
use Rattle.stub_table.specs.declared.saved.SavedStubs.{SavedStubs}
use Rattle.local_zone.specs.Saved as zone
use Rattle.stub_table.specs.Saved as stub
use Rattle.table_changes.specs.Both.{of_zones, of_stubs, saved_table, face_by, shown_tables, KeepsBoth}
use Rattle.table_changes.specs.Part.{part}
use Rattle.table_changes.specs.PartLaws.{part_present, part_cleared, part_choice}
use Rattle.table_changes.specs.TableRow.{table_by, KeepsRow}
use Rattle.table_changes.specs.TableRowLaws.{table_present, keeps_stale, table_stale}
use Rattle.table_changes.specs.declared.tables.TableWorld.{TableWorld}
use Rattle.table_changes.specs.declared.tables.SavedTable.{SavedTable}
use Rattle.table_changes.specs.declared.tables.SavedTable.TheVariants as saved

-- a choice of what is in effect gives both tables as they are
pub shows_both : (t : TableWorld) (kept : List (KeptChange SavedTable)) (chosen : ℕ → Bool) → IsPresent kept chosen → IsSame (face_by t kept chosen) (shown_tables t)
shows_both t kept chosen p =
    let zones = table_present zone.before_of t.tables.local (part of_zones kept) chosen (part_present of_zones kept chosen p) in
    let stubs = table_present stub.before_of t.tables.stubs (part of_stubs kept) chosen (part_present of_stubs kept chosen p) in
    record { tables = λ i. record { local = zones i; stubs = stubs i }; cell = λ q. refl }

-- Tables have nothing to sweep.
pub none_later : (t : TableWorld) (a b : ℕ) → a ≤ b → 0 ≤ 0
none_later t a b le = omega arith

-- ---- the two parts

-- what a change of the zones saved has the number 1
pub zones_numbered : (s : SavedTable) (p : SavedTables) → of_zones s ≡ Some p → saved_table s ≡ Some 1
zones_numbered (saved.Zones s) p e = refl
zones_numbered (saved.Stubs s) p e = absurd cc

-- what a change of the stubs saved has the number 2
pub stubs_numbered : (s : SavedTable) (p : SavedStubs) → of_stubs s ≡ Some p → saved_table s ≡ Some 2
stubs_numbered (saved.Zones s) p e = absurd cc
stubs_numbered (saved.Stubs s) p e = refl

-- what a change of the zones saved is of no stubs
pub zones_apart : (s : SavedTable) (p : SavedTables) → of_zones s ≡ Some p → of_stubs s ≡ None
zones_apart (saved.Zones s) p e = refl
zones_apart (saved.Stubs s) p e = absurd cc

-- what a change of the stubs saved is of no zones
pub stubs_apart : (s : SavedTable) (p : SavedStubs) → of_stubs s ≡ Some p → of_zones s ≡ None
stubs_apart (saved.Zones s) p e = absurd cc
stubs_apart (saved.Stubs s) p e = refl

-- ---- what is cleared

-- clearing undone changes keeps both tables
pub clears_both : (t : TableWorld) (kept : List (KeptChange SavedTable)) → KeepsBoth t kept →
    IsRowAfter saved_table KeepsBoth face_by same_face any t kept t (cleared kept)
clears_both t kept h =
    let zones_is = part_cleared of_zones kept in
    let stubs_is = part_cleared of_stubs kept in
    record {
      keeps_left = (
        subst (λ (x : List (KeptChange SavedTables)). KeepsRow zone.before_of zone.TakesBack t.tables.local x) (sym zones_is) (keeps_stale zone.before_of zone.TakesBack t.tables.local (part of_zones kept) h.0),
        subst (λ (x : List (KeptChange SavedStubs)). KeepsRow stub.before_of stub.TakesBack t.tables.stubs x) (sym stubs_is) (keeps_stale stub.before_of stub.TakesBack t.tables.stubs (part of_stubs kept) h.1),
      );
      faces = λ chosen p choice.
          let zones_choice = subst (λ (x : List (KeptChange SavedTables)). IsChoice (λ (s : SavedTables). Some 1) x chosen) zones_is (part_choice of_zones saved_table 1 zones_numbered (cleared kept) chosen choice) in
          let stubs_choice = subst (λ (x : List (KeptChange SavedStubs)). IsChoice (λ (s : SavedStubs). Some 2) x chosen) stubs_is (part_choice of_stubs saved_table 2 stubs_numbered (cleared kept) chosen choice) in
          let zones : table_by zone.before_of t.tables.local (part of_zones (cleared kept)) chosen ≡ table_by zone.before_of t.tables.local (part of_zones kept) chosen
          = ap (λ (x : List (KeptChange SavedTables)). table_by zone.before_of t.tables.local x chosen) zones_is
          ∙ table_stale zone.before_of zone.TakesBack (λ (s : SavedTables). Some 1) (λ a b. refl) t.tables.local (part of_zones kept) chosen zones_choice in
          let stubs : table_by stub.before_of t.tables.stubs (part of_stubs (cleared kept)) chosen ≡ table_by stub.before_of t.tables.stubs (part of_stubs kept) chosen
          = ap (λ (x : List (KeptChange SavedStubs)). table_by stub.before_of t.tables.stubs x chosen) stubs_is
          ∙ table_stale stub.before_of stub.TakesBack (λ (s : SavedStubs). Some 2) (λ a b. refl) t.tables.stubs (part of_stubs kept) chosen stubs_choice in
          record { tables = λ i. record { local = zones i; stubs = stubs i }; cell = λ q. refl };
    }
