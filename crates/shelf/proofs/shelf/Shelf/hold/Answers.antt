use Rattle.std.proofs.Common.{◌≡◌, ◌≤◌, ℕ, Option, Some, None, List, Bool, cond, true, false, length, refl, sym, ap, ◌∙◌, subst, rules, arith}
use Rattle.std.proofs.lemmas.Map.Entries.{length-keys_of}
use Rattle.std.specs.Map.{keys_of}
use Rattle.dns_name.specs.Order.{name_eq}
use Rattle.cell_store.specs.Store.{name_place}
use Rattle.shelf.specs.Clean.{touched, touched_at, AreBy}
use Rattle.shelf.specs.declared.ends.Ends.{Ends}
use Rattle.shelf.specs.declared.shelf.Shelf.{Shelf}
use Rattle.shelf.proofs.EvenLaws.{by_place, low_place, none_past}
use Rattle.ranked.specs.declared.find.Find.{Find}
use Rattle.ranked.specs.declared.cell.Admitted.{Admitted}
use Rattle.ranked.specs.Find.{touches, admission_of}
use Rattle.ranked.specs.Cell.{after_admission}
use Rattle.shelf.specs.declared.shelf.KeptFlush.{KeptFlush}
use Rattle.shelf.specs.Settling.{settled_version}
use Rattle.shelf.specs.Told.{cell_at, only, chosen_version, is_version, IsShelf}
use Rattle.shelf.specs.Told.Told.{admitted}
use Rattle.std.specs.Prelude.{is_some, nat_lt, not, position, Ok}
use Rattle.std.specs.Option.{option_map_or}
use Rattle.std.proofs.lemmas.Bool.{false≢true}
use Rattle.indexmap.specs.IndexMap.{get}
use Rattle.indexmap.proofs.MapLemmas.{some_index}
use Rattle.cell_store.specs.declared.owner.OwnerCells.{OwnerCells}
use Rattle.cell_store.specs.Count.{has_place, has_place_for, one_if}
use Rattle.shelf.proofs.EndLaws.{ends_same, held_about, held_ends, held_ok, held_room, held_shape}
use Rattle.shelf.specs.declared.lasts.Lasts.{Lasts}
use Rattle.shelf.specs.Lasts.{HaveRoom}
use Rattle.shelf.proofs.AboutLaws.{about_admitted}
use Rattle.shelf.proofs.ShelfLaws.{told_more}
use Rattle.shelf.proofs.ShelfLaws as shelf
use Rattle.shelf.proofs.FaceLaws.{chosen_low, settles_kept}
use Rattle.shelf.proofs.SettlingLaws.{admitted_settling, held_settling, version_low}
use Rattle.shelf.proofs.shelf.Shelf.hold.Goals as goal

-- the place that a look-up has found, by the number of the moments
spot : (shelf : Shelf) (find : Find) (place : Option ℕ) → IsShelf shelf → place ≡ position (name_eq find.owner) (keys_of shelf.owners.entries)
    → place ≡ cond (nat_lt (name_place find.owner shelf.owners.entries) (length shelf.ends.moments)) (Some (name_place find.owner shelf.owners.entries)) None
spot shelf find place whole at =
    let p = name_place find.owner shelf.owners.entries in
    let size : length (keys_of shelf.owners.entries) ≡ length shelf.ends.moments = length-keys_of shelf.owners.entries ∙ sym whole.ends.size in
    at ∙ ap (λ n. cond (nat_lt p n) (Some p) None) size

touched_by : (shelf : Shelf) (find : Find) (place : Option ℕ) (middle : Ends) → IsShelf shelf → place ≡ position (name_eq find.owner) (keys_of shelf.owners.entries) → AreBy (touched_at place) shelf.ends middle
    → AreBy (touched (name_place find.owner shelf.owners.entries)) shelf.ends middle
touched_by shelf find place middle whole at by = by_place shelf.ends middle (name_place find.owner shelf.owners.entries) place (spot shelf find place whole at) by

-- a find whose place counts has a name that is there
is_there : (found : Option OwnerCells) (counts : OwnerCells → Bool) → option_map_or counts found false ≡ true → is_some found ≡ true
is_there None counts has = absurd (false≢true has)
is_there (Some cells) counts has = refl

has_spot : (shelf : Shelf) (find : Find) (place : Option ℕ) → place ≡ position (name_eq find.owner) (keys_of shelf.owners.entries) → has_place_for shelf.owners find ≡ true → is_some place ≡ true
has_spot shelf find place at has =
    ap is_some at ∙ (some_index (name_eq find.owner) shelf.owners.entries ∙ is_there (get name_eq shelf.owners find.owner) (λ cells. has_place cells find.scope) has)

pub touch-requires : goal.touch-requires
touch-requires c =
    let self = c.args.self.now in
    record {
      low = low_place (name_place c.args.find.owner self.owners.entries) (length self.ends.moments) c.args.place (spot self c.args.find c.args.place c.requires.whole c.requires.room.0);
      flags = c.requires.whole.ends.flags;
    }

pub fit-requires : goal.fit-requires
fit-requires c = record { flags = c.in_ok-touch.ensures.ok.flags }

pub follow-requires : goal.follow-requires
follow-requires c =
    let self = c.args.self.now in
    record {
      shape = held_shape self c.admit_at-result.new.owners c.args.find c.args.find c.touch.new.ends c.fit.new.ends c.requires.whole.ends c.admit_at-result.ensures.bound.others refl (touched_by self c.args.find c.args.place c.touch.new.ends c.requires.whole c.requires.room.0 c.in_ok-touch.ensures.ok) c.fit.ensures.ends;
      room = λ more.
          subst (λ (l : Lasts). HaveRoom l) (sym c.fit.ensures.lasts)
          (held_room self c.admit_at-result.new.owners c.args.find c.args.find c.touch.new.ends c.fit.new.ends c.requires.whole.ends c.admit_at-result.ensures.bound.others refl (touched_by self c.args.find c.args.place c.touch.new.ends c.requires.whole c.requires.room.0 c.in_ok-touch.ensures.ok) c.fit.ensures.ends
          (HaveRoom c.touch.new.ends.lasts)
          (λ past. c.in_ok-touch.ensures.room (none_past (name_place c.args.find.owner self.owners.entries) (length self.ends.moments) c.args.place
          (spot self c.args.find c.args.place c.requires.whole c.requires.room.0) (past ∙ sym c.requires.whole.ends.size))) more);
    }

pub admit_at-result-requires : goal.admit_at-result-requires
admit_at-result-requires c = record {
  index = (record { upto = c.requires.whole.upto; counted = c.requires.whole.counted; few = omega (arith, c.requires.whole.few, c.requires.whole.small) }, c.requires.room.0);
}

pub reach_names-requires : goal.reach_names-requires
reach_names-requires c =
    let self = c.args.self.now in
    let done : c.admit_at-result.result ≡ Ok c.in_ok-result.field-0 = cc in
    let cells = held_ok c.admit_at-result.result c.in_ok-result.field-0 c.admit_at-result.ensures.cells done in
    record {
      whole = record {
        upto = c.admit_at-result.ensures.upto;
        about = about_admitted self.owners c.admit_at-result.new.owners c.args.find c.args.moment self.top c.admit_at-result.ensures.upto cells c.requires.whole.about;
        numbers = c.requires.whole.numbers;
        ascending = c.requires.whole.ascending;
        settles = settles_kept self.owners c.admit_at-result.new.owners self.top self.kept.items c.admit_at-result.ensures.settles c.requires.whole.numbers c.requires.whole.settles;
        counted = c.admit_at-result.ensures.bound.counted;
        few = omega (arith, c.admit_at-result.ensures.bound.most, c.requires.room.1);
        small = c.requires.whole.small;
        room = c.requires.whole.room;
        ends = held_ends self c.admit_at-result.new.owners c.args.find c.args.find c.touch.new.ends c.fit.new.ends c.requires.whole.ends c.admit_at-result.ensures.bound.others refl (touched_by self c.args.find c.args.place c.touch.new.ends c.requires.whole c.requires.room.0 c.in_ok-touch.ensures.ok) c.fit.ensures.ends c.follow.new.self c.follow.ensures.ends c.follow.ensures.winners;
        settling = admitted_settling self.top self.owners c.admit_at-result.new.owners c.args.find.owner c.admit_at-result.ensures.bound.others.names
            c.args.find c.args.moment cells self.settlings.items c.requires.whole.settling;
        space = c.requires.whole.space;
        named = c.admit_at-result.ensures.named c.requires.whole.named;
        useful = c.requires.whole.useful;
        doubt = omega (arith, c.in_ok-touch.ensures.ok.left, c.fit.ensures.ends.left, c.requires.whole.doubt);
      };
    }

pub returns-clause-admitted : goal.returns-clause-admitted
returns-clause-admitted c =
    let self = c.args.self.now in
    let new = admission_of c.args.find c.args.find c.args.moment in
    let done : c.admit_at-result.result ≡ Ok c.in_ok-result.field-0 = cc in
    let cells = held_ok c.admit_at-result.result c.in_ok-result.field-0 c.admit_at-result.ensures.cells done in
    let kept = c.reach_names.ensures.loses.flushes.0 in
    let low = version_low self.owners self.top self.settlings.items c.requires.whole.settling in
    record {
      cells = λ told is question version there.
          let was = subst (λ (l : List KeptFlush). is_version l question version ≡ true) kept there in
          c.reach_names.ensures.cells question version
          ∙ (cells question (settled_version self.settlings.items question.owner version) (low question.owner version (shelf.version_low self.kept.items self.top question version c.requires.whole.numbers was))
          ∙ (ap (λ (h : Option (Admitted Find)). cond (touches c.args.find question) (after_admission h new) h) (is question version was)
          ∙ sym (told_more question (only version) told (admitted c.args.find c.args.moment))));
      faces = λ chosen q.
          let version = chosen_version self.kept.items q chosen in
          ap (λ (l : List KeptFlush). cell_at c.reach_names.new.self q (chosen_version l q chosen)) kept
          ∙ (c.reach_names.ensures.cells q version
          ∙ cells q (settled_version self.settlings.items q.owner version) (low q.owner version (chosen_low self.top self.kept.items q chosen c.requires.whole.numbers)));
      pairs = λ pair has. c.admit_at-result.ensures.bound.pairs pair (c.reach_names.ensures.loses.pairs pair has);
    }

at_most_one : (b : Bool) → one_if b ≤ 1
at_most_one true = omega arith
at_most_one false = omega arith

pub returns-clause-whole : goal.returns-clause-whole
returns-clause-whole c = c.reach_names.ensures.loses.whole

pub returns-clause-kept : goal.returns-clause-kept
returns-clause-kept c = (
  c.reach_names.ensures.loses.flushes,
  omega (arith, c.reach_names.ensures.loses.stored, c.admit_at-result.ensures.bound.most, at_most_one (not (has_place_for c.args.self.now.owners c.args.find))),
)

pub returns-in_err-result-clause-kept : goal.returns-in_err-result-clause-kept
returns-in_err-result-clause-kept c = ((refl, refl, refl), omega (arith, c.admit_at-result.ensures.bound.most, at_most_one (not (has_place_for c.args.self.now.owners c.args.find))))

pub returns-in_err-touch-clause-kept : goal.returns-in_err-touch-clause-kept
returns-in_err-touch-clause-kept c = ((refl, refl, refl), omega arith)

pub returns-in_err-result-clause-whole : goal.returns-in_err-result-clause-whole
returns-in_err-result-clause-whole c =
    let self = c.args.self.now in
    record {
      upto = c.admit_at-result.ensures.upto;
      about = held_about self.owners c.admit_at-result.new.owners c.args.find c.args.moment self.top self.stored c.admit_at-result.new.stored c.admit_at-result.result c.admit_at-result.ensures.upto c.admit_at-result.ensures.cells c.admit_at-result.ensures.err c.requires.whole.about;
      numbers = c.requires.whole.numbers;
      ascending = c.requires.whole.ascending;
      settles = settles_kept self.owners c.admit_at-result.new.owners self.top self.kept.items c.admit_at-result.ensures.settles c.requires.whole.numbers c.requires.whole.settles;
      counted = c.admit_at-result.ensures.bound.counted;
      few = omega (arith, c.admit_at-result.ensures.bound.most, c.requires.room.1);
      small = c.requires.whole.small;
      room = c.requires.whole.room;
      ends = held_ends self c.admit_at-result.new.owners c.args.find c.args.find c.touch.new.ends c.fit.new.ends c.requires.whole.ends c.admit_at-result.ensures.bound.others refl (touched_by self c.args.find c.args.place c.touch.new.ends c.requires.whole c.requires.room.0 c.in_ok-touch.ensures.ok) c.fit.ensures.ends c.follow.new.self c.follow.ensures.ends c.follow.ensures.winners;
      settling = held_settling self.owners c.admit_at-result.new.owners c.args.find c.args.moment self.top self.stored c.admit_at-result.new.stored c.admit_at-result.result c.admit_at-result.ensures.cells c.admit_at-result.ensures.err c.admit_at-result.ensures.bound.others.names
          self.settlings.items c.requires.whole.settling;
      space = c.requires.whole.space;
      named = c.admit_at-result.ensures.named c.requires.whole.named;
      useful = c.requires.whole.useful;
      doubt = omega (arith, c.in_ok-touch.ensures.ok.left, c.fit.ensures.ends.left, c.requires.whole.doubt);
    }

pub returns-in_err-touch-clause-whole : goal.returns-in_err-touch-clause-whole
returns-in_err-touch-clause-whole c =
    let self = c.args.self.now in
    let whole = c.requires.whole in
    record {
      upto = whole.upto;
      about = whole.about;
      numbers = whole.numbers;
      ascending = whole.ascending;
      settles = whole.settles;
      counted = whole.counted;
      few = whole.few;
      small = whole.small;
      room = whole.room;
      ends = ends_same self.kept.items self.owners.entries self.ends c.touch.new.ends c.in_err-touch.ensures.err whole.ends;
      settling = whole.settling;
      space = whole.space;
      named = whole.named;
      useful = whole.useful;
      doubt = omega (arith, c.in_err-touch.ensures.err.left, whole.doubt);
    }

pub returns-in_err-touch-clause-fault : goal.returns-in_err-touch-clause-fault
returns-in_err-touch-clause-fault c = (search rules, λ has. absurd (false≢true (c.in_err-touch.ensures.free (has_spot c.args.self.now c.args.find c.args.place c.requires.room.0 has))))
