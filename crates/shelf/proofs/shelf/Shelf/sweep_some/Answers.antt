use Rattle.std.proofs.Common.{◌≡◌, ◌<◌, List, [], refl, sym, ap, ◌∙◌, subst, arith}
use Rattle.cell_store.specs.Ends.{latest}
use Rattle.cell_store.specs.Sweep.{alive_at}
use Rattle.shelf.specs.declared.settling.Settling.{Settling}
use Rattle.shelf.specs.declared.shelf.KeptFlush.{KeptFlush}
use Rattle.shelf.specs.declared.shelf.Shelf.{Shelf}
use Rattle.shelf.specs.Clean.{AreEnds}
use Rattle.shelf.specs.Settling.{reached_at_once, settled_cell}
use Rattle.shelf.specs.Sweep.{AreAlive, AreLessened}
use Rattle.shelf.specs.Told.{cell_at, chosen_version}
use Rattle.shelf.proofs.RoomLaws.{chosen_is_version}
use Rattle.shelf.proofs.LeftLaws.{fewer_steps}
use Rattle.shelf.proofs.LosingLaws.{swept_loses}
use Rattle.shelf.proofs.NeedLaws.{needed}
use Rattle.shelf.proofs.BoundLaws.{no_doubt}
use Rattle.shelf.proofs.VisitLaws.{reached_short, turn_more, turn_reached, turn_short, turn_small}
use Rattle.shelf.proofs.shelf.Shelf.sweep_some.Goals as goal

pub sweep_few-requires-clause-ready : goal.sweep_few-requires-clause-ready
sweep_few-requires-clause-ready c =
    let self = c.args.self.now in
    let whole = c.requires.whole in
    record {
      ends = subst (λ (l : List KeptFlush). AreEnds l c.args.self.now.owners.entries c.args.self.now.ends) (sym c.deref.ensures.value) whole.ends;
      sure = no_doubt self whole (c.is_reaching.ensures.none c.if-is_reaching.false);
      counted = whole.counted;
      top = (self.top, whole.upto);
    }

pub returns-clause-faces : goal.returns-clause-faces
returns-clause-faces c = λ chosen q.
    let self = c.args.self.now in
    let none : c.args.self.now.settlings.items ≡ [] = c.is_reaching.ensures.none c.if-is_reaching.false in
    let v = chosen_version self.kept.items q chosen in
    let less = subst (λ (l : List KeptFlush). AreLessened l c.args.moment c.args.self.now.owners c.sweep_few.new.owners) c.deref.ensures.value c.sweep_few.ensures.swept.less in
    ap (λ (s : List Settling). alive_at c.args.moment (settled_cell s c.sweep_few.new.owners q v)) none
    ∙ (less.cells q v (chosen_is_version self.kept.items q chosen)
    ∙ sym (ap (λ (s : List Settling). alive_at c.args.moment (settled_cell s self.owners q v)) none))

pub returns-clause-loses : goal.returns-clause-loses
returns-clause-loses c =
    let self = c.args.self.now in
    let swept : Shelf = record self { owners = c.sweep_few.new.owners; stored = c.sweep_few.new.stored; numbers = c.sweep_few.new.numbers; ends = c.sweep_few.new.ends } in
    swept_loses c.args.moment self swept _ refl c.deref.ensures.value (c.is_reaching.ensures.none c.if-is_reaching.false) c.requires.whole c.sweep_few.ensures.swept c.sweep_few.ensures.capacity

pub returns-then-is_reaching-clause-loses : goal.returns-then-is_reaching-clause-loses
returns-then-is_reaching-clause-loses c = c.reach_names.ensures.loses

pub returns-then-is_reaching-clause-faces : goal.returns-then-is_reaching-clause-faces
returns-then-is_reaching-clause-faces c = λ chosen q.
    let self = c.args.self.now in
    let new = c.reach_names.new.self in
    ap (λ (l : List KeptFlush). alive_at c.args.moment (cell_at new q (chosen_version l q chosen))) c.reach_names.ensures.loses.flushes.0
    ∙ ap (alive_at c.args.moment) (c.reach_names.ensures.cells q (chosen_version self.kept.items q chosen))

pub returns-then-is_reaching-clause-more : goal.returns-then-is_reaching-clause-more
returns-then-is_reaching-clause-more c = λ more.
    let self = c.args.self.now in
    let fewer = fewer_steps reached_at_once self.settlings.items c.reach_names.new.self.settlings.items (omega arith) (c.is_reaching.ensures.some c.if-is_reaching.true) c.reach_names.ensures.left in
    turn_reached c.args.moment self.ends.moments c.reach_names.new.self.ends.moments self.settlings.items c.reach_names.new.self.settlings.items fewer c.reach_names.ensures.ended

pub returns-then-is_reaching-clause-short : goal.returns-then-is_reaching-clause-short
returns-then-is_reaching-clause-short c = λ small.
    let self = c.args.self.now in
    reached_short c.args.moment self.ends.moments c.reach_names.new.self.ends.moments self.settlings.items c.reach_names.new.self.settlings.items c.reach_names.ensures.left c.reach_names.ensures.ended

pub returns-clause-more : goal.returns-clause-more
returns-clause-more c = λ more.
    let small : c.args.moment < latest = omega (arith, c.if-moment-eq18446744073709551615.false, c.ranges.moment.fits) in
    let self = c.args.self.now in
    turn_more c.args.moment self.ends.moments c.sweep_few.new.ends.moments self.settlings.items small (c.sweep_few.ensures.more more)

pub returns-clause-short : goal.returns-clause-short
returns-clause-short c = λ small.
    let self = c.args.self.now in
    turn_short c.args.moment self.ends.moments c.sweep_few.new.ends.moments self.settlings.items small c.sweep_few.ensures.short

pub returns-clause-none : goal.returns-clause-none
returns-clause-none c = λ last.
    let small : c.args.moment < latest = omega (arith, c.if-moment-eq18446744073709551615.false, c.ranges.moment.fits) in
    let none : c.args.self.now.settlings.items ≡ [] = c.is_reaching.ensures.none c.if-is_reaching.false in
    turn_small c.args.moment c.sweep_few.new.ends.moments c.args.self.now.settlings.items small none (c.sweep_few.ensures.none last).0

pub returns-clause-alive : goal.returns-clause-alive
returns-clause-alive c = λ last.
    let self = c.args.self.now in
    let none : c.args.self.now.settlings.items ≡ [] = c.is_reaching.ensures.none c.if-is_reaching.false in
    let alive = subst (λ (l : List KeptFlush). AreAlive l c.args.moment c.sweep_few.new.owners) c.deref.ensures.value (c.sweep_few.ensures.none last).1 in
    let swept : Shelf = record self { owners = c.sweep_few.new.owners; stored = c.sweep_few.new.stored; numbers = c.sweep_few.new.numbers; ends = c.sweep_few.new.ends } in
    (alive, needed swept c.args.moment none alive)
