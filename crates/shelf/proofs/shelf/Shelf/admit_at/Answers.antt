use Rattle.std.proofs.Common.{refl, arith, Option, cond, sym, ap, ◌∙◌}
use Rattle.std.specs.Prelude.{position}
use Rattle.std.specs.Map.{keys_of}
use Rattle.dns_name.specs.Order.{name_eq}
use Rattle.ranked.specs.declared.find.Find.{Find}
use Rattle.ranked.specs.declared.cell.Admitted.{Admitted}
use Rattle.ranked.specs.Find.{touches, admission_of}
use Rattle.ranked.specs.Cell.{after_admission}
use Rattle.shelf.specs.Told.{only, chosen_version}
use Rattle.shelf.specs.Told.Told.{admitted}
use Rattle.shelf.proofs.ShelfLaws.{told_more}
use Rattle.shelf.specs.Room.{room_for}
use Rattle.shelf.proofs.RoomLaws.{unwanted_cell, chosen_is_version, room_full, room_unwanted, room_free, fault_of, not_both, not_needed, has_or_needs}
use Rattle.shelf.proofs.ByRoomLaws.{by_room_free, by_room_full, by_room_ok, same_pairs}
use Rattle.shelf.proofs.shelf.Shelf.admit_at.Goals as goal

pub hold-requires : goal.hold-requires
hold-requires c = record {
  whole = c.requires.whole;
  room = (
    c.requires.place,
    room_free c.args.self.now c.args.find c.args.moment (c.in-Free.ensures ∙ ap (λ (f : Find). room_for c.args.self.now f c.args.moment) c.find-2.ensures) c.requires.whole.few,
  );
}

pub returns-in-Unwanted : goal.returns-in-Unwanted
returns-in-Unwanted c =
    let self = c.args.self.now in
    let find = c.args.find in
    let new = admission_of c.args.find c.args.find c.args.moment in
    let room = c.in-Unwanted.ensures ∙ ap (λ (f : Find). room_for c.args.self.now f c.args.moment) c.find-2.ensures in
    let unwanted = room_unwanted self c.args.find c.args.moment room in
    record {
      whole = c.requires.whole;
      admitted = record {
        cells = λ told is question version there.
            unwanted_cell self c.args.find c.args.moment unwanted question version there
            ∙ (ap (λ (h : Option (Admitted Find)). cond (touches c.args.find question) (after_admission h new) h) (is question version there)
            ∙ sym (told_more question (only version) told (admitted c.args.find c.args.moment)));
        faces = λ chosen q.
            unwanted_cell self c.args.find c.args.moment unwanted q (chosen_version self.kept.items q chosen) (chosen_is_version self.kept.items q chosen);
        pairs = same_pairs self c.args.find;
      };
      full = tt;
      room = by_room_ok self find c.args.moment _ _ refl (λ same needs. not_needed self find c.args.moment room same needs);
      same = tt;
      flushes = (refl, refl, refl);
      stored = omega arith;
    }

pub returns-in-Full : goal.returns-in-Full
returns-in-Full c =
    let self = c.args.self.now in
    let find = c.args.find in
    let full = room_full c.args.self.now c.args.find c.args.moment (c.in-Full.ensures ∙ ap (λ (f : Find). room_for c.args.self.now f c.args.moment) c.find-2.ensures) in
    record {
      whole = c.requires.whole;
      admitted = tt;
      full = (c.stored.ensures.value, full.0, full.1);
      room = by_room_full self c.requires.whole find c.args.moment _ _ refl c.stored.ensures.value full
          (λ told each. omega (arith, full.0, c.stored.ensures.value, c.stored.ensures.most c.requires.whole told each));
      same = record { cells = λ told is. is; faces = λ chosen q. refl; kept = refl; top = refl; stored = refl; pairs = λ pair has. has };
      flushes = (refl, refl, refl);
      stored = omega arith;
    }

pub returns-in-Free : goal.returns-in-Free
returns-in-Free c =
    let self = c.args.self.now in
    let find = c.args.find in
    let held = c.hold.ensures in
    let room = c.in-Free.ensures ∙ ap (λ (f : Find). room_for c.args.self.now f c.args.moment) c.find-2.ensures in
    record {
      whole = held.whole;
      admitted = held.admitted;
      full = fault_of self find c.args.moment c.hold.result held.fault.0 held.fault.1;
      room = by_room_free self c.requires.whole find c.args.moment c.hold.result (λ same needs. not_both self find c.args.moment room same needs) (has_or_needs self find c.args.moment room) held.fault.0 held.fault.1;
      same = held.same;
      flushes = held.kept.0;
      stored = held.kept.1;
    }

pub room_for-requires : goal.room_for-requires
room_for-requires c =
    let test = λ (f : Find). position (name_eq f.owner) (keys_of c.args.self.now.owners.entries) in
    c.requires.place ∙ sym (ap test c.find-2.ensures)
