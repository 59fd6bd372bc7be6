use Rattle.std.proofs.Common.{◌≡◌, ◌<◌, ℕ, List, Option, length, refl, sym, subst, arith}
use Rattle.std.proofs.lemmas.Map.Entries.{length-keys_of}
use Rattle.std.specs.Map.{keys_of}
use Rattle.std.specs.Prelude.{position, IfSome}
use Rattle.cell_store.specs.Store.{name_place}
use Rattle.shelf.proofs.EvenLaws.{low_place}
use Rattle.dns_name.specs.Labels.{Labels}
use Rattle.cell_store.specs.declared.owner.OwnerCells.{OwnerCells}
use Rattle.shelf.specs.declared.ends.Ends.{Ends}
use Rattle.shelf.specs.Clean.{dropped, AreBy, AreEnds}
use Rattle.shelf.specs.Lasts.{AreWinners}
use Rattle.shelf.proofs.EndLaws.{gone_ends, gone_low, gone_winners}
use Rattle.shelf.specs.Settling.{settled_version}
use Rattle.shelf.specs.Told.{chosen_version}
use Rattle.dns_name.specs.Order.{name_eq}
use Rattle.shelf.proofs.AboutLaws.{about_forgot}
use Rattle.shelf.proofs.PlaceLaws.{fewer_left}
use Rattle.shelf.proofs.FaceLaws.{settles_each}
use Rattle.shelf.proofs.NamedLaws.{each_forgot}
use Rattle.shelf.proofs.SettlingLaws.{forgot_settling}
use Rattle.shelf.proofs.shelf.Shelf.forget.Goals as goal

-- the place that the name had
low : (name : Labels) (entries : List (Labels × OwnerCells)) (place : Option ℕ) → place ≡ position (name_eq name) (keys_of entries) → IfSome place (λ p. p < length entries)
low name entries place at = subst (λ n. IfSome place (λ p. p < n)) (length-keys_of entries) (low_place (name_place name entries) (length (keys_of entries)) place at)

by : (name : Labels) (entries : List (Labels × OwnerCells)) (place : Option ℕ) (was ends : Ends) → place ≡ position (name_eq name) (keys_of entries) → AreBy (dropped place) was ends → AreBy (dropped (position (name_eq name) (keys_of entries))) was ends
by name entries place was ends at = subst (λ (o : Option ℕ). AreBy (dropped o) was ends) at

pub forget_place-place-requires : goal.forget_place-place-requires
forget_place-place-requires c = record { counted = c.requires.whole.counted }

pub drop_end-requires : goal.drop_end-requires
drop_end-requires c = record {
  low = subst (λ n. IfSome c.forget_place-place.result (λ p. p < n)) (sym c.requires.whole.ends.size) (low c.args.owner.now c.args.self.now.owners.entries c.forget_place-place.result c.forget_place-place.ensures.place);
  flags = c.requires.whole.ends.flags;
}

pub remove-requires : goal.remove-requires
remove-requires c =
    let self = c.args.self.now in
    record {
      shape = (gone_winners self.kept.items c.args.owner.now self.owners.entries self.ends c.drop_end.new.ends c.requires.whole.ends (by c.args.owner.now self.owners.entries c.forget_place-place.result self.ends c.drop_end.new.ends c.forget_place-place.ensures.place c.drop_end.ensures)).shape;
      low = gone_low self.kept.items c.args.owner.now self.owners.entries self.ends c.drop_end.new.ends c.requires.whole.ends (by c.args.owner.now self.owners.entries c.forget_place-place.result self.ends c.drop_end.new.ends c.forget_place-place.ensures.place c.drop_end.ensures) c.forget_place-place.result (low c.args.owner.now c.args.self.now.owners.entries c.forget_place-place.result c.forget_place-place.ensures.place);
    }

pub returns-clause-faces : goal.returns-clause-faces
returns-clause-faces c = λ chosen q.
    let self = c.args.self.now in
    c.forget_place-place.ensures.cells q (settled_version self.settlings.items q.owner (chosen_version self.kept.items q chosen))

pub returns-clause-loses : goal.returns-clause-loses
returns-clause-loses c =
    let self = c.args.self.now in
    let whole = c.requires.whole in
    record {
      whole = record {
        upto = c.forget_place-place.ensures.gains.upto self.top whole.upto;
        about = about_forgot self.owners c.forget_place-place.new.owners (λ q. name_eq c.args.owner.now q.owner) c.forget_place-place.ensures.cells whole.about;
        numbers = whole.numbers;
        ascending = whole.ascending;
        settles = settles_each self.owners c.forget_place-place.new.owners self.kept.items c.forget_place-place.ensures.gains.settles whole.settles;
        counted = c.forget_place-place.ensures.counted;
        few = omega (arith, c.forget_place-place.ensures.fewer.0, whole.few);
        small = whole.small;
        room = whole.room;
        ends = subst (λ (l : List (Labels × OwnerCells)). AreEnds self.kept.items l (record { moments = c.drop_end.new.ends.moments; mixed = c.drop_end.new.ends.mixed; left = c.drop_end.new.ends.left; lasts = c.remove.new.self })) (sym c.forget_place-place.ensures.gone.1)
            (gone_ends self.kept.items c.args.owner.now self.owners.entries self.ends c.drop_end.new.ends whole.ends (by c.args.owner.now self.owners.entries c.forget_place-place.result self.ends c.drop_end.new.ends c.forget_place-place.ensures.place c.drop_end.ensures) c.forget_place-place.result c.remove.new.self c.forget_place-place.ensures.place c.remove.ensures.ends
            (subst (λ (l : List (Labels × OwnerCells)). AreWinners l c.remove.new.self) c.forget_place-place.ensures.gone.1
            (c.remove.ensures.winners self.owners.entries c.args.owner.now c.forget_place-place.ensures.place c.forget_place-place.ensures.gone.1
            (gone_winners self.kept.items c.args.owner.now self.owners.entries self.ends c.drop_end.new.ends whole.ends (by c.args.owner.now self.owners.entries c.forget_place-place.result self.ends c.drop_end.new.ends c.forget_place-place.ensures.place c.drop_end.ensures)))));
        settling = forgot_settling self.top self.owners c.forget_place-place.new.owners c.args.owner.now c.forget_place-place.ensures.cells c.forget_place-place.ensures.gone.1 self.settlings.items whole.settling;
        space = whole.space;
        named = each_forgot c.args.owner.now self.owners.entries c.forget_place-place.new.owners.entries self.ends.moments whole.ends.size c.forget_place-place.ensures.gone.1 whole.named;
        useful = whole.useful;
        doubt = omega (arith, c.drop_end.ensures.left, whole.doubt);
      };
      flushes = (refl, refl, refl);
      stored = c.forget_place-place.ensures.fewer.0;
      pairs = c.forget_place-place.ensures.gains.pairs;
    }

pub returns-clause-fewer : goal.returns-clause-fewer
returns-clause-fewer c = λ t end is.
    fewer_left c.args.self.now c.requires.whole c.args.owner.now c.forget_place-place.new.stored c.forget_place-place.ensures.fewer.1 t end is
