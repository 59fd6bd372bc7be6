use Rattle.std.proofs.Common.{List, length, nat_lt, refl, ap, sym, ◌∙◌}
use Rattle.dns_text.specs.declared.record.Record.{Record}
use Rattle.local_zone.specs.declared.added.RecordTurn.{RecordTurn}
use Rattle.local_zone.specs.declared.added.RecordTurn.TheVariants.{Added, Removes}
use Rattle.local_zone.specs.Added.{records_other}
use Rattle.local_zone.specs.Answer.{has_record}
use Rattle.local_zone.specs.Change.{records_with}
use Rattle.local_zone.specs.Index.{of_owner}
use Rattle.local_zone.specs.Tables.{Tables}
use Rattle.local_zone.proofs.OtherLaws.{side_goes, side_takes}
use Rattle.local_zone.proofs.OtherSetLaws.{has_many}
use Rattle.local_zone.proofs.other_side.OtherSide.has.Goals as goal

pub returns-in-Nothing : goal.returns-in-Nothing
returns-in-Nothing c =
    let records : List Record = c.self.inside.records.now in
    let over = ap (λ (x : RecordTurn). has_record c.args.owner.now (records_other x records)) (sym c.in-Nothing.is) ∙ ap (λ (t : Tables). has_record c.args.owner.now t.records) c.self.view_is in
    ap (nat_lt 0) c.count_of-count.ensures ∙ sym (has_many c.args.owner.now records) ∙ over

pub returns-in-Added : goal.returns-in-Added
returns-in-Added c =
    let records : List Record = c.self.inside.records.now in
    let over = ap (λ (x : RecordTurn). has_record c.args.owner.now (records_other x records)) (sym c.in-Added.is) ∙ ap (λ (t : Tables). has_record c.args.owner.now t.records) c.self.view_is in
    let goes = side_goes c.self.inside.saved.now.records (Added c.in-Added.added) records c.in-Added.is c.self.invariant.back.goes in
    c.has_before.ensures records goes c.count_of-count.ensures ∙ over

pub returns-in-Adds : goal.returns-in-Adds
returns-in-Adds c =
    let records : List Record = c.self.inside.records.now in
    let over = ap (λ (x : RecordTurn). has_record c.args.owner.now (records_other x records)) (sym c.in-Adds.is) ∙ ap (λ (t : Tables). has_record c.args.owner.now t.records) c.self.view_is in
    c.has_with.ensures records c.count_of-count.ensures ∙ ap (λ (r : Record). has_record c.args.owner.now (records_with r records)) c.get.ensures ∙ over

pub returns-in-Removed : goal.returns-in-Removed
returns-in-Removed c =
    let records : List Record = c.self.inside.records.now in
    let over = ap (λ (x : RecordTurn). has_record c.args.owner.now (records_other x records)) (sym c.in-Removed.is) ∙ ap (λ (t : Tables). has_record c.args.owner.now t.records) c.self.view_is in
    c.has_back.ensures records c.count_of-count.ensures ∙ over

pub has_left-requires : goal.has_left-requires
has_left-requires c =
    let self = c.self.inside in
    let goes = side_goes self.saved.now.records (Removes c.in-Removes.gaps) self.records.now c.in-Removes.is c.self.invariant.back.goes in
    rw (c.deref.ensures.value, c.as_slice-all.ensures) (record {
      fits = c.self.invariant.back.fits;
      within = goes.0;
      apart = goes.1;
      removal = side_takes self.saved.now self.zones.now self.records.now (Removes c.in-Removes.gaps) c.in-Removes.is refl c.self.invariant.back;
    })

pub returns-in-Removes : goal.returns-in-Removes
returns-in-Removes c =
    let records : List Record = c.self.inside.records.now in
    let over = ap (λ (x : RecordTurn). has_record c.args.owner.now (records_other x records)) (sym c.in-Removes.is) ∙ ap (λ (t : Tables). has_record c.args.owner.now t.records) c.self.view_is in
    let left = c.has_left.ensures (c.count_of-count.ensures ∙ ap (λ (rs : List Record). length (of_owner c.args.owner.now rs)) (sym c.as_slice-all.ensures)) in
    (rw (c.deref.ensures.value, c.as_slice-all.ensures) at left) ∙ over
