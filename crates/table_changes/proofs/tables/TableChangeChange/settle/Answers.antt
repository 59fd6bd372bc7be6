use Rattle.std.proofs.Common.{refl}
use Rattle.local_zone.specs.Saved as zone
use Rattle.stub_table.specs.Saved as stub
use Rattle.table_changes.specs.Both.{of_zones, of_stubs, saved_table, KeepsBoth}
use Rattle.table_changes.specs.declared.tables.SavedTable.TheVariants as saved
use Rattle.table_changes.specs.BothLaws.{zones_numbered, stubs_numbered, zones_apart, stubs_apart}
use Rattle.table_changes.proofs.BothRows.{zones_tab, stubs_tab, zones_with_stubs, stubs_with_zones, zones_split, stubs_split, zones_join, stubs_join}
use Rattle.table_changes.proofs.PartRows.{both_oldest, both_cleared}
use Rattle.table_changes.proofs.tables.TableChangeChange.settle.Goals as goal

pub returns-in-Zones-clause-oldest : goal.returns-in-Zones-clause-oldest
returns-in-Zones-clause-oldest c = rw c.in-Zones.is (λ ticket later h.
    both_oldest zones_tab stubs_tab zones_with_stubs of_zones of_stubs zone.before_of zone.TakesBack stub.before_of stub.TakesBack saved_table 1 2 zones_numbered stubs_numbered zones_apart KeepsBoth zones_split zones_join
    c.args.world.now (record { tables = record { local = c.settle.new.self; stubs = c.args.world.now.tables.stubs } }) ticket (saved.Zones c.in-Zones.saved) later c.in-Zones.saved refl c.settle.ensures refl h)

pub returns-in-Zones-clause-cleared : goal.returns-in-Zones-clause-cleared
returns-in-Zones-clause-cleared c = rw c.in-Zones.is (λ earlier ticket later h.
    both_cleared zones_tab stubs_tab zones_with_stubs of_zones of_stubs zone.before_of zone.TakesBack stub.before_of stub.TakesBack saved_table 1 2 zones_numbered stubs_numbered zones_apart KeepsBoth zones_split zones_join
    c.args.world.now (record { tables = record { local = c.settle.new.self; stubs = c.args.world.now.tables.stubs } }) earlier ticket (saved.Zones c.in-Zones.saved) later c.in-Zones.saved refl c.settle.ensures refl h)

pub returns-in-Stubs-clause-oldest : goal.returns-in-Stubs-clause-oldest
returns-in-Stubs-clause-oldest c = rw c.in-Stubs.is (λ ticket later h.
    both_oldest stubs_tab zones_tab stubs_with_zones of_stubs of_zones stub.before_of stub.TakesBack zone.before_of zone.TakesBack saved_table 2 1 stubs_numbered zones_numbered stubs_apart KeepsBoth stubs_split stubs_join
    c.args.world.now (record { tables = record { local = c.args.world.now.tables.local; stubs = c.settle-in-Stubs.new.self } }) ticket (saved.Stubs c.in-Stubs.saved) later c.in-Stubs.saved refl c.settle-in-Stubs.ensures refl h)

pub returns-in-Stubs-clause-cleared : goal.returns-in-Stubs-clause-cleared
returns-in-Stubs-clause-cleared c = rw c.in-Stubs.is (λ earlier ticket later h.
    both_cleared stubs_tab zones_tab stubs_with_zones of_stubs of_zones stub.before_of stub.TakesBack zone.before_of zone.TakesBack saved_table 2 1 stubs_numbered zones_numbered stubs_apart KeepsBoth stubs_split stubs_join
    c.args.world.now (record { tables = record { local = c.args.world.now.tables.local; stubs = c.settle-in-Stubs.new.self } }) earlier ticket (saved.Stubs c.in-Stubs.saved) later c.in-Stubs.saved refl c.settle-in-Stubs.ensures refl h)
