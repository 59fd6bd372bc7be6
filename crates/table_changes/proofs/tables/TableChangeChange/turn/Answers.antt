use Rattle.std.proofs.Common.{refl, sym, ap, ◌∙◌}
use Rattle.std.proofs.lemmas.Bool.{false≢true}
use Rattle.local_zone.specs.Saved as zone
use Rattle.stub_table.specs.Saved as stub
use Rattle.table_changes.specs.Both.{of_zones, of_stubs, saved_needs, saved_needs_after, saved_table, KeepsBoth}
use Rattle.table_changes.specs.declared.tables.SavedTable.TheVariants as saved
use Rattle.table_changes.specs.BothLaws.{zones_numbered, stubs_numbered, zones_apart, stubs_apart}
use Rattle.table_changes.proofs.BothRows.{zones_tab, stubs_tab, zones_with_stubs, stubs_with_zones, zones_split, stubs_split, zones_join, stubs_join}
use Rattle.table_changes.proofs.PartRows.{both_leads, both_turned}
use Rattle.table_changes.proofs.tables.TableChangeChange.turn.Goals as goal

pub turn_zones-requires : goal.turn_zones-requires
turn_zones-requires c =
    let r = c.requires in (
      zone.before_of c.in-Zones.saved c.args.world.now.tables.local,
      both_leads zones_tab stubs_tab zones_with_stubs of_zones of_stubs zone.before_of zone.TakesBack stub.before_of stub.TakesBack saved_table 1 2 zones_numbered stubs_numbered zones_apart KeepsBoth zones_split zones_join
          c.args.world.now c.args.from r.0 r.1.0 c.args.saved.now r.1.1.0 c.in-Zones.saved (ap of_zones c.in-Zones.is) r.1.1.1,
    )

pub returns-in_ok-turn_zones-in-Zones-clause-row : goal.returns-in_ok-turn_zones-in-Zones-clause-row
returns-in_ok-turn_zones-in-Zones-clause-row c = λ earlier ticket later at.
    both_turned zones_tab stubs_tab zones_with_stubs of_zones of_stubs zone.before_of zone.TakesBack stub.before_of stub.TakesBack saved_table 1 2 zones_numbered stubs_numbered zones_apart KeepsBoth zones_split zones_join
    c.args.world.now (record { tables = record { local = c.turn_zones.new.table; stubs = c.args.world.now.tables.stubs } }) c.args.from earlier ticket c.args.saved.now (saved.Zones c.turn_zones.new.saved) later c.in-Zones.saved c.turn_zones.new.saved (ap of_zones c.in-Zones.is) refl
    (sym c.in_ok-turn_zones-in-Zones.ensures.turns.other) c.in_ok-turn_zones-in-Zones.ensures.turns.again.gives c.in_ok-turn_zones-in-Zones.ensures.turns.again refl at

pub turn_stubs-requires : goal.turn_stubs-requires
turn_stubs-requires c =
    let r = c.requires in (
      stub.before_of c.in-Stubs.saved c.args.world.now.tables.stubs,
      both_leads stubs_tab zones_tab stubs_with_zones of_stubs of_zones stub.before_of stub.TakesBack zone.before_of zone.TakesBack saved_table 2 1 stubs_numbered zones_numbered stubs_apart KeepsBoth stubs_split stubs_join
          c.args.world.now c.args.from r.0 r.1.0 c.args.saved.now r.1.1.0 c.in-Stubs.saved (ap of_stubs c.in-Stubs.is) r.1.1.1,
    )

pub returns-in_ok-turn_stubs-in-Stubs-clause-row : goal.returns-in_ok-turn_stubs-in-Stubs-clause-row
returns-in_ok-turn_stubs-in-Stubs-clause-row c = λ earlier ticket later at.
    both_turned stubs_tab zones_tab stubs_with_zones of_stubs of_zones stub.before_of stub.TakesBack zone.before_of zone.TakesBack saved_table 2 1 stubs_numbered zones_numbered stubs_apart KeepsBoth stubs_split stubs_join
    c.args.world.now (record { tables = record { local = c.args.world.now.tables.local; stubs = c.turn_stubs.new.table } }) c.args.from earlier ticket c.args.saved.now (saved.Stubs c.turn_stubs.new.saved) later c.in-Stubs.saved c.turn_stubs.new.saved (ap of_stubs c.in-Stubs.is) refl
    (sym c.in_ok-turn_stubs-in-Stubs.ensures.ok) c.in_ok-turn_stubs-in-Stubs.ensures.again.gives c.in_ok-turn_stubs-in-Stubs.ensures.again refl at

pub returns-in_ok-turn_zones-in-Zones-clause-turned : goal.returns-in_ok-turn_zones-in-Zones-clause-turned
returns-in_ok-turn_zones-in-Zones-clause-turned c =
    let turned = c.in_ok-turn_zones-in-Zones.ensures.turns in
    (turned.need ∙ sym (ap saved_needs_after c.in-Zones.is), turned.need_after ∙ sym (ap saved_needs c.in-Zones.is))

pub returns-in_err-turn_zones-in-Zones-clause-free : goal.returns-in_err-turn_zones-in-Zones-clause-free
returns-in_err-turn_zones-in-Zones-clause-free c none = absurd (false≢true (c.in_err-turn_zones-in-Zones.ensures.free (sym (ap saved_needs c.in-Zones.is) ∙ none)))

pub returns-in_ok-turn_stubs-in-Stubs-clause-turned : goal.returns-in_ok-turn_stubs-in-Stubs-clause-turned
returns-in_ok-turn_stubs-in-Stubs-clause-turned c =
    let turned = c.in_ok-turn_stubs-in-Stubs.ensures.turned in
    (turned.0 ∙ sym (ap saved_needs_after c.in-Stubs.is), turned.1 ∙ sym (ap saved_needs c.in-Stubs.is))

pub returns-in_err-turn_stubs-in-Stubs-clause-free : goal.returns-in_err-turn_stubs-in-Stubs-clause-free
returns-in_err-turn_stubs-in-Stubs-clause-free c none = absurd (false≢true (c.in_err-turn_stubs-in-Stubs.ensures.free (sym (ap saved_needs c.in-Stubs.is) ∙ none)))
