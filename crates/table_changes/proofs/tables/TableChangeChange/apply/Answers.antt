use Rattle.std.proofs.Common.{◌≡◌, refl, false, subst}
use Rattle.local_zone.specs.Saved as zone
use Rattle.stub_table.specs.Saved as stub
use Rattle.table_changes.specs.Both.{of_zones, of_stubs, saved_table, change_after, change_removes, KeepsBoth}
use Rattle.table_changes.specs.Stubs.{stubs_after}
use Rattle.table_changes.specs.Zones.{zones_after}
use Rattle.table_changes.specs.declared.tables.SavedTable.TheVariants as saved
use Rattle.table_changes.specs.declared.tables.TableChange.{TableChange}
use Rattle.table_changes.specs.declared.tables.TableChange.TheVariants as change
use Rattle.table_changes.specs.BothLaws.{zones_numbered, stubs_numbered, zones_apart, stubs_apart}
use Rattle.table_changes.proofs.BothRows.{zones_tab, stubs_tab, zones_with_stubs, stubs_with_zones, zones_split, stubs_split, zones_join, stubs_join}
use Rattle.table_changes.proofs.PartRows.{both_with}
use Rattle.table_changes.proofs.tables.TableChangeChange.apply.Goals as goal

pub returns-in_ok-saved-in-Zones-clause-row : goal.returns-in_ok-saved-in-Zones-clause-row
returns-in_ok-saved-in-Zones-clause-row c = rw c.in-Zones.is (λ kept h next newest.
    both_with zones_tab stubs_tab zones_with_stubs of_zones of_stubs zone.before_of zone.TakesBack stub.before_of stub.TakesBack saved_table 1 2 zones_numbered stubs_numbered zones_apart KeepsBoth zones_split zones_join
    (zones_after c.in-Zones.change) (change_after (change.Zones c.in-Zones.change)) (λ q. false) c.args.world.now (record { tables = record { local = c.make_zone_change.new.table; stubs = c.args.world.now.tables.stubs } }) kept c.args._ticket
    (saved.Zones c.in_ok-saved-in-Zones.saved) c.in_ok-saved-in-Zones.saved refl c.in_ok-saved-in-Zones.ensures.saved.gives c.in_ok-saved-in-Zones.ensures.saved c.in_ok-saved-in-Zones.ensures.ok.1 refl (λ v u. refl) h)

pub returns-in_ok-saved-in-Stubs-clause-row : goal.returns-in_ok-saved-in-Stubs-clause-row
returns-in_ok-saved-in-Stubs-clause-row c = rw c.in-Stubs.is (λ kept h next newest.
    both_with stubs_tab zones_tab stubs_with_zones of_stubs of_zones stub.before_of stub.TakesBack zone.before_of zone.TakesBack saved_table 2 1 stubs_numbered zones_numbered stubs_apart KeepsBoth stubs_split stubs_join
    (stubs_after c.in-Stubs.change) (change_after (change.Stubs c.in-Stubs.change)) (λ q. false) c.args.world.now (record { tables = record { local = c.args.world.now.tables.local; stubs = c.make_stub_change.new.table } }) kept c.args._ticket
    (saved.Stubs c.in_ok-saved-in-Stubs.saved) c.in_ok-saved-in-Stubs.saved refl c.in_ok-saved-in-Stubs.ensures.saved.gives c.in_ok-saved-in-Stubs.ensures.saved c.in_ok-saved-in-Stubs.ensures.ok.1 refl (λ v u. refl) h)

pub returns-in_ok-saved-in-Zones-clause-frees : goal.returns-in_ok-saved-in-Zones-clause-frees
returns-in_ok-saved-in-Zones-clause-frees c none =
    c.in_ok-saved-in-Zones.ensures.frees (subst (λ (made : TableChange). change_removes made c.args.world.now.tables ≡ false) c.in-Zones.is none)

pub returns-in_ok-saved-in-Stubs-clause-frees : goal.returns-in_ok-saved-in-Stubs-clause-frees
returns-in_ok-saved-in-Stubs-clause-frees c none =
    c.in_ok-saved-in-Stubs.ensures.frees (subst (λ (made : TableChange). change_removes made c.args.world.now.tables ≡ false) c.in-Stubs.is none)
