use Rattle.std.proofs.Common.{List, refl, ap, sym, ◌∙◌}
use Rattle.dns_text.specs.declared.record.Record.{Record}
use Rattle.local_zone.specs.declared.added.RecordTurn.{RecordTurn}
use Rattle.local_zone.specs.declared.added.RecordTurn.TheVariants.{Added, Removed, Removes}
use Rattle.local_zone.specs.Added.{records_other}
use Rattle.local_zone.specs.Show.{set_of}
use Rattle.local_zone.specs.Tables.{Tables}
use Rattle.local_zone.proofs.OtherLaws.{side_goes, side_takes}
use Rattle.local_zone.proofs.other_side.OtherSide.set_of.Goals as goal

pub returns-in-Nothing : goal.returns-in-Nothing
returns-in-Nothing c =
    let records : List Record = c.self.inside.records.now in
    let over = ap (λ (x : RecordTurn). set_of c.args.owner.now c.args.kind (records_other x records)) (sym c.in-Nothing.is) ∙ ap (λ (t : Tables). set_of c.args.owner.now c.args.kind t.records) c.self.view_is in
    c.same.ensures ∙ c.set_of-own.ensures ∙ over

pub returns-in-Added : goal.returns-in-Added
returns-in-Added c =
    let records : List Record = c.self.inside.records.now in
    let over = ap (λ (x : RecordTurn). set_of c.args.owner.now c.args.kind (records_other x records)) (sym c.in-Added.is) ∙ ap (λ (t : Tables). set_of c.args.owner.now c.args.kind t.records) c.self.view_is in
    let goes = side_goes c.self.inside.saved.now.records (Added c.in-Added.added) records c.in-Added.is c.self.invariant.back.goes in
    c.set_before.ensures records goes c.set_of-own.ensures ∙ over

pub returns-in-Adds : goal.returns-in-Adds
returns-in-Adds c =
    let records : List Record = c.self.inside.records.now in
    let over = ap (λ (x : RecordTurn). set_of c.args.owner.now c.args.kind (records_other x records)) (sym c.in-Adds.is) ∙ ap (λ (t : Tables). set_of c.args.owner.now c.args.kind t.records) c.self.view_is in
    c.set_with.ensures records c.set_of-own.ensures ∙ over

pub returns-in-Removed : goal.returns-in-Removed
returns-in-Removed c =
    let records : List Record = c.self.inside.records.now in
    let over = ap (λ (x : RecordTurn). set_of c.args.owner.now c.args.kind (records_other x records)) (sym c.in-Removed.is) ∙ ap (λ (t : Tables). set_of c.args.owner.now c.args.kind t.records) c.self.view_is in
    let goes = side_goes c.self.inside.saved.now.records (Removed c.in-Removed.removed) records c.in-Removed.is c.self.invariant.back.goes in
    c.set_back.ensures records goes.1 c.set_of-own.ensures ∙ over

pub set_left-requires : goal.set_left-requires
set_left-requires c =
    let self = c.self.inside in
    let goes = side_goes self.saved.now.records (Removes c.in-Removes.gaps) self.records.now c.in-Removes.is c.self.invariant.back.goes in
    rw (c.deref.ensures.value, c.as_slice-all.ensures) (record {
      fits = c.self.invariant.back.fits;
      within = goes.0;
      apart = goes.1;
      removal = side_takes self.saved.now self.zones.now self.records.now (Removes c.in-Removes.gaps) c.in-Removes.is refl c.self.invariant.back;
    })

pub returns-in-Removes : goal.returns-in-Removes
returns-in-Removes c =
    let records : List Record = c.self.inside.records.now in
    let over = ap (λ (x : RecordTurn). set_of c.args.owner.now c.args.kind (records_other x records)) (sym c.in-Removes.is) ∙ ap (λ (t : Tables). set_of c.args.owner.now c.args.kind t.records) c.self.view_is in
    let left = c.set_left.ensures (c.set_of-own.ensures ∙ ap (λ (rs : List Record). set_of c.args.owner.now c.args.kind rs) (sym c.as_slice-all.ensures)) in
    (rw (c.deref.ensures.value, c.as_slice-all.ensures) at left) ∙ over
