-- Calls that take cells from names: one after the other, and none.
use Rattle.std.proofs.Common.{◌≡◌, ℕ, List, [], refl, sym, subst, ◌∙◌, arith}
use Rattle.std.specs.List.{AllByRecursion}
use Rattle.std.specs.Prelude.{vec_capacity}
use Rattle.indexmap.specs.IndexMap.{IndexMap}
use Rattle.dns_name.specs.Labels.{Labels}
use Rattle.cell_store.specs.declared.owner.OwnerCells.{OwnerCells}
use Rattle.cell_store.specs.Count.{stored_in}
use Rattle.shelf.specs.declared.ends.Ends.{Ends}
use Rattle.shelf.specs.declared.settling.Settling.{Settling}
use Rattle.shelf.specs.declared.shelf.KeptFlush.{KeptFlush}
use Rattle.shelf.specs.declared.shelf.Shelf.{Shelf}
use Rattle.shelf.specs.Clean.{AreEnds, HaveEnds}
use Rattle.shelf.specs.Losing.{IsTallied, LoseCells, LosePlaces}
use Rattle.shelf.specs.Settling.{IsSettling}
use Rattle.shelf.specs.Sweep.{AreSwept}
use Rattle.shelf.specs.Told.{IsShelf, LosesOnly}
use Rattle.shelf.proofs.FaceLaws.{settles_each}
use Rattle.shelf.proofs.SweepLaws.{gain_twice}

-- Names as they were have lost nothing.
pub lose_none : {S : Type 0} (owners : IndexMap Labels OwnerCells S) (stored : ℕ) → stored ≡ stored_in owners → LosePlaces owners stored owners stored
lose_none owners stored counted = record {
  gains = record { upto = λ top is. is; settles = λ number kind name is. is; pairs = λ pair has. has };
  counted = counted;
  fewer = omega arith;
  named = λ each. each;
}

-- Nor with their moments.
pub lose_no_cells : {S : Type 0} (owners : IndexMap Labels OwnerCells S) (stored : ℕ) (ends : Ends) → stored ≡ stored_in owners → HaveEnds owners.entries ends → LoseCells owners stored ends owners stored ends
lose_no_cells owners stored ends counted size = record { places = lose_none owners stored counted; ends = λ kept is. is; size = size }

-- What two calls lose.
lose_twice : {S : Type 0} (first middle last : IndexMap Labels OwnerCells S) (a b c : ℕ) → LosePlaces first a middle b → LosePlaces middle b last c → LosePlaces first a last c
lose_twice first middle last a b c before after = record {
  gains = gain_twice first middle last before.gains after.gains;
  counted = after.counted;
  fewer = omega (arith, before.fewer, after.fewer);
  named = λ each. after.named (before.named each);
}

-- The same with their moments.
pub cells_twice : {S : Type 0} (first middle last : IndexMap Labels OwnerCells S) (a b c : ℕ) (old between new : Ends) → LoseCells first a old middle b between → LoseCells middle b between last c new → LoseCells first a old last c new
cells_twice first middle last a b c old between new before after = record {
  places = lose_twice first middle last a b c before.places after.places;
  ends = λ kept is. after.ends kept (before.ends kept is);
  size = after.size;
}

-- A whole cache is tallied.
pub tallied : (shelf : Shelf) → IsShelf shelf → IsTallied shelf.owners shelf.stored shelf.ends
tallied shelf whole = record {
  counted = whole.counted;
  top = (shelf.top, whole.upto);
  size = (whole.ends.size, whole.ends.flags, whole.ends.winners.size, whole.ends.winners.shape);
}

-- A cache that loses something at most at each of two calls.
pub loses_twice : (first middle last : Shelf) → LosesOnly first middle → LosesOnly middle last → LosesOnly first last
loses_twice first middle last before after = record {
  whole = after.whole;
  flushes = (after.flushes.0 ∙ before.flushes.0, after.flushes.1 ∙ before.flushes.1, after.flushes.2 ∙ before.flushes.2);
  stored = omega (arith, before.stored, after.stored);
  pairs = λ pair has. before.pairs pair (after.pairs pair has);
}

-- What a sweep loses, once no permanent flush has a name left.
pub swept_loses : (t : ℕ) (old new : Shelf) (kept : List KeptFlush) → new ≡ record old { owners = new.owners; stored = new.stored; numbers = new.numbers; ends = new.ends } → kept ≡ old.kept.items → old.settlings.items ≡ [] → IsShelf old →
    AreSwept kept t old.owners old.stored new.owners new.ends new.stored → vec_capacity new.numbers ≡ vec_capacity old.numbers → LosesOnly old new
swept_loses t old new kept rest is none whole swept room = subst (λ (x : Shelf). LosesOnly old x) (sym rest) (record {
  whole = record {
    upto = swept.less.gains.upto old.top whole.upto;
    about = swept.less.about whole.about;
    numbers = whole.numbers;
    ascending = whole.ascending;
    settles = settles_each old.owners new.owners old.kept.items swept.less.gains.settles whole.settles;
    counted = swept.counted;
    few = omega (arith, swept.fewer, whole.few);
    small = whole.small;
    room = omega (arith, room, whole.room);
    ends = subst (λ (l : List KeptFlush). AreEnds l new.owners.entries new.ends) is swept.ends;
    settling = subst (λ (s : List Settling). AllByRecursion (IsSettling old.top new.owners) s) (sym none) tt;
    space = whole.space;
    named = swept.named whole.named;
    useful = whole.useful;
    doubt = omega (arith, swept.sure);
  };
  flushes = (refl, refl, refl);
  stored = swept.fewer;
  pairs = swept.less.gains.pairs;
})
