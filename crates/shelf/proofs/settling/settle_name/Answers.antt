use Rattle.std.proofs.Common.{◌≡◌, Some, None, length, sym, ◌∙◌, arith}
use Rattle.std.specs.Prelude.{◌==◌, ◌&&◌, position}
use Rattle.std.specs.List.{list_any}
use Rattle.std.specs.Map.{keys_of}
use Rattle.std.proofs.lemmas.Map.Entries.{length-keys_of}
use Rattle.dns_name.specs.Order.{name_eq}
use Rattle.dns_text.specs.declared.record.Question.{Question}
use Rattle.cell_store.specs.Owner.{after_settle}
use Rattle.cell_store.specs.Store.{name_place}
use Rattle.shelf.proofs.DropLaws.{ends_absent, moved_kept, spot_of, stay_at}
use Rattle.shelf.proofs.NamedLaws.{each_absent}
use Rattle.shelf.proofs.SettlingLaws.{moved_name}
use Rattle.shelf.proofs.SweepLaws.{gain_twice}
use Rattle.shelf.proofs.settling.settle_name.Goals as goal

pub drop_or_end-requires : goal.drop_or_end-requires
drop_or_end-requires c =
    let olds = c.args.owners.now.entries in
    let was = c.requires.tallied in
    let there : Some c.in-Some.place ≡ position (name_eq c.args.name.now) (keys_of c.args.owners.now.entries) = sym c.in-Some.is ∙ c.get_index_of-place.ensures.index in
    let spot = spot_of (name_place c.args.name.now olds) (length (keys_of olds)) c.in-Some.place there in
    let size = c.settle_kinds.ensures.entries.size in
    record {
      low = omega (arith, spot.0, spot.1, length-keys_of olds, size);
      top = (was.top.0, c.settle_kinds.ensures.gains.upto was.top.0 was.top.1);
      size = (was.size.0 ∙ sym size, was.size.1, was.size.2 ∙ sym size, was.size.3);
    }

pub returns-in-Some-clause-moved : goal.returns-in-Some-clause-moved
returns-in-Some-clause-moved c = λ settlings top upto all.
    let middle = c.settle_kinds.new.owners in
    let news = c.drop_or_end.new.owners in
    let tidied = c.drop_or_end.ensures.tidied in
    let covered = λ (q : Question). name_eq c.args.name.now q.owner && list_any (λ kind. kind == q.kind) c.args.kinds.now in
    let low = c.settle_kinds.ensures.gains.upto top upto in
    moved_kept middle news top (tidied.gains.upto top low) tidied.cells tidied.reached
    (λ q v. after_settle (name_eq c.args.name.now q.owner && list_any (λ kind. kind == q.kind) c.args.kinds.now) c.args.number v) settlings settlings c.args.owners.now
    (moved_name covered c.args.number top c.args.owners.now middle c.settle_kinds.ensures.entries.names c.settle_kinds.ensures.cells settlings low all)

pub returns-in-None-clause-moved : goal.returns-in-None-clause-moved
returns-in-None-clause-moved c = λ settlings top upto all.
    moved_name (λ q. name_eq c.args.name.now q.owner && list_any (λ kind. kind == q.kind) c.args.kinds.now) c.args.number top c.args.owners.now c.settle_kinds.new.owners c.settle_kinds.ensures.entries.names c.settle_kinds.ensures.cells settlings
    (c.settle_kinds.ensures.gains.upto top upto) all

pub returns-in-Some-clause-lost : goal.returns-in-Some-clause-lost
returns-in-Some-clause-lost c =
    let olds = c.args.owners.now.entries in
    let middle = c.settle_kinds.new.owners in
    let tidied = c.drop_or_end.ensures.tidied in
    let there : Some c.in-Some.place ≡ position (name_eq c.args.name.now) (keys_of c.args.owners.now.entries) = sym c.in-Some.is ∙ c.get_index_of-place.ensures.index in
    let spot = spot_of (name_place c.args.name.now olds) (length (keys_of olds)) c.in-Some.place there in
    let stays = stay_at c.args.name.now olds middle.entries c.in-Some.place spot.0 c.settle_kinds.ensures.entries.others c.settle_kinds.ensures.entries.names in
    record {
      places = record {
        gains = gain_twice c.args.owners.now middle c.drop_or_end.new.owners c.settle_kinds.ensures.gains tidied.gains;
        counted = c.settle_kinds.ensures.counted.0 ∙ sym tidied.counted;
        fewer = c.settle_kinds.ensures.counted.1;
        named = λ each. tidied.named olds stays each;
      };
      ends = λ kept is. tidied.ends kept olds stays is;
      size = tidied.size;
    }

pub returns-in-None-clause-lost : goal.returns-in-None-clause-lost
returns-in-None-clause-lost c =
    let olds = c.args.owners.now.entries in
    let news = c.settle_kinds.new.owners.entries in
    let entries = c.settle_kinds.ensures.entries in
    let was = c.requires.tallied in
    let none : None ≡ position (name_eq c.args.name.now) (keys_of c.args.owners.now.entries) = sym c.in-None.is ∙ c.get_index_of-place.ensures.index in
    record {
      places = record {
        gains = c.settle_kinds.ensures.gains;
        counted = c.settle_kinds.ensures.counted.0;
        fewer = c.settle_kinds.ensures.counted.1;
        named = λ each. each_absent c.args.name.now olds news entries.others entries.size none each;
      };
      ends = λ kept is. ends_absent kept c.args.name.now olds news c.args.ends.now is entries.others entries.size none;
      size = (was.size.0 ∙ sym entries.size, was.size.1, was.size.2 ∙ sym entries.size, was.size.3);
    }

pub settle_kinds-requires : goal.settle_kinds-requires
settle_kinds-requires c = record { settles = c.requires.settles; counted = c.requires.tallied.counted }

pub returns-in-Some-clause-left : goal.returns-in-Some-clause-left
returns-in-Some-clause-left c = c.drop_or_end.ensures.ended.1.0
