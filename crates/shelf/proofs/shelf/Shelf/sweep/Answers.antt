use Rattle.std.proofs.Common.{◌≡◌, List, [], true, length, refl, sym, ap, ◌∙◌, subst, arith}
use Rattle.cell_store.specs.Sweep.{alive_at}
use Rattle.shelf.specs.declared.settling.Settling.{Settling}
use Rattle.shelf.specs.declared.shelf.KeptFlush.{KeptFlush}
use Rattle.shelf.specs.declared.shelf.Shelf.{Shelf}
use Rattle.shelf.specs.Clean.{AreEnds}
use Rattle.shelf.specs.Settling.{reached_at_once, settled_cell}
use Rattle.shelf.specs.Sweep.{AreAlive, AreLessened}
use Rattle.shelf.specs.Told.{chosen_version, is_version}
use Rattle.shelf.proofs.RoomLaws.{chosen_is_version}
use Rattle.shelf.proofs.LeftLaws.{fewer_steps}
use Rattle.shelf.proofs.LosingLaws.{loses_twice, swept_loses}
use Rattle.shelf.proofs.NeedLaws.{needed}
use Rattle.shelf.proofs.BoundLaws.{no_doubt}
use Rattle.shelf.proofs.VisitLaws.{turn_none}
use Rattle.shelf.proofs.shelf.Shelf.sweep.Goals as goal

pub loop-self-init : goal.loop-self-init
loop-self-init c = record {
  loses = record { whole = c.requires.whole; flushes = (refl, refl, refl); stored = omega arith; pairs = λ pair has. has };
  cells = λ q v. refl;
}

pub reach_names-requires : goal.reach_names-requires
reach_names-requires c = record { whole = c.loop-self.invariant.loses.whole }

pub loop-self-preserved : goal.loop-self-preserved
loop-self-preserved c = record {
  loses = loses_twice c.args.self.now c.loop-self.self c.reach_names.new.self c.loop-self.invariant.loses c.reach_names.ensures.loses;
  cells = λ q v. c.reach_names.ensures.cells q v ∙ c.loop-self.invariant.cells q v;
}

pub loop-self-smaller : goal.loop-self-smaller
loop-self-smaller c =
    fewer_steps reached_at_once c.loop-self.self.settlings.items c.reach_names.new.self.settlings.items (omega arith) (c.is_reaching.ensures.some c.loop-self-test.true) c.reach_names.ensures.left

pub sweep_all-requires-clause-ready : goal.sweep_all-requires-clause-ready
sweep_all-requires-clause-ready c =
    let middle = c.loop-self.self in
    let whole = c.loop-self.invariant.loses.whole in
    record {
      ends = subst (λ (l : List KeptFlush). AreEnds l c.loop-self.self.owners.entries c.loop-self.self.ends) (sym c.deref.ensures.value) whole.ends;
      sure = no_doubt middle whole (c.is_reaching.ensures.none c.loop-self-test.false);
      counted = whole.counted;
      top = (middle.top, whole.upto);
    }

pub sweep_all-requires-clause-room : goal.sweep_all-requires-clause-room
sweep_all-requires-clause-room c = omega (arith, ap length c.deref.ensures.value, c.loop-self.invariant.loses.whole.room)

pub returns-clause-faces : goal.returns-clause-faces
returns-clause-faces c = λ chosen q.
    let self = c.args.self.now in
    let middle = c.loop-self.self in
    let none : c.loop-self.self.settlings.items ≡ [] = c.is_reaching.ensures.none c.loop-self-test.false in
    let v = chosen_version self.kept.items q chosen in
    let kept = c.loop-self.invariant.loses.flushes.0 in
    let there : is_version c.loop-self.self.kept.items q (chosen_version c.args.self.now.kept.items q chosen) ≡ true =
    ap (λ (l : List KeptFlush). is_version l q (chosen_version c.args.self.now.kept.items q chosen)) kept ∙ chosen_is_version self.kept.items q chosen in
    let less = subst (λ (l : List KeptFlush). AreLessened l c.args.moment c.loop-self.self.owners c.sweep_all.new.owners) c.deref.ensures.value c.sweep_all.ensures.swept.less in
    ap (λ (l : List KeptFlush). alive_at c.args.moment (settled_cell middle.settlings.items c.sweep_all.new.owners q (chosen_version l q chosen))) kept
    ∙ (ap (λ (s : List Settling). alive_at c.args.moment (settled_cell s c.sweep_all.new.owners q v)) none
    ∙ (less.cells q v there
    ∙ (sym (ap (λ (s : List Settling). alive_at c.args.moment (settled_cell s middle.owners q v)) none)
    ∙ ap (alive_at c.args.moment) (c.loop-self.invariant.cells q v))))

pub returns-clause-loses : goal.returns-clause-loses
returns-clause-loses c =
    let middle = c.loop-self.self in
    let was = c.loop-self.invariant.loses in
    let swept : Shelf = record middle { owners = c.sweep_all.new.owners; stored = c.sweep_all.new.stored; numbers = c.sweep_all.new.numbers; ends = c.sweep_all.new.ends } in
    loses_twice c.args.self.now middle swept was
    (swept_loses c.args.moment middle swept _ refl c.deref.ensures.value (c.is_reaching.ensures.none c.loop-self-test.false) was.whole c.sweep_all.ensures.swept c.sweep_all.ensures.capacity)

pub returns-clause-none : goal.returns-clause-none
returns-clause-none c =
    let none : c.loop-self.self.settlings.items ≡ [] = c.is_reaching.ensures.none c.loop-self-test.false in
    (none, turn_none c.args.moment c.sweep_all.new.ends.moments c.loop-self.self.settlings.items none c.sweep_all.ensures.none)

pub returns-clause-alive : goal.returns-clause-alive
returns-clause-alive c =
    let middle = c.loop-self.self in
    let none : c.loop-self.self.settlings.items ≡ [] = c.is_reaching.ensures.none c.loop-self-test.false in
    let alive = subst (λ (l : List KeptFlush). AreAlive l c.args.moment c.sweep_all.new.owners) c.deref.ensures.value c.sweep_all.ensures.alive in
    let swept : Shelf = record middle { owners = c.sweep_all.new.owners; stored = c.sweep_all.new.stored; numbers = c.sweep_all.new.numbers; ends = c.sweep_all.new.ends } in
    (subst (λ (l : List KeptFlush). AreAlive l c.args.moment c.sweep_all.new.owners) c.loop-self.invariant.loses.flushes.0 alive, needed swept c.args.moment none alive)
