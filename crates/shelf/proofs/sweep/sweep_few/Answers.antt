use Rattle.std.proofs.Common.{◌≤◌, refl, ◌∙◌, arith}
use Rattle.std.proofs.lemmas.List.{get_or_default}
use Rattle.winner_tree.specs.Tree.{HasEnded, moment_at}
use Rattle.cell_store.specs.Ends.{latest}
use Rattle.shelf.proofs.VisitLaws.{all_alive, each_clean, ended_zero, later_zero, start, tallied_on, when_none, when_some}
use Rattle.shelf.proofs.sweep.sweep_few.Goals as goal

pub loop-left-init : goal.loop-left-init
loop-left-init c = record {
  underway = start c.args.kept.now c.args.moment c.args.owners.now c.args.ends.now c.args.stored.now c.requires.ready;
  fewer = omega arith;
  capacity = refl;
}

pub visit-requires-clause-low : goal.visit-requires-clause-low
visit-requires-clause-low c =
    let ended = when_some (HasEnded c.loop-left.ends.moments c.args.moment) c.first_ended.result c.in-Some.place c.in-Some.is c.first_ended.ensures.some in
    omega (arith, ended.0, c.loop-left.invariant.underway.so_far.ends.size)

pub visit-requires-clause-tallied : goal.visit-requires-clause-tallied
visit-requires-clause-tallied c = tallied_on c.args.kept.now c.args.moment c.args.moment c.args.stored.now c.loop-left.stored c.args.owners.now c.loop-left.owners c.loop-left.ends c.requires.ready.top c.loop-left.invariant.underway

pub loop-left-preserved : goal.loop-left-preserved
loop-left-preserved c =
    let ended = when_some (HasEnded c.loop-left.ends.moments c.args.moment) c.first_ended.result c.in-Some.place c.in-Some.is c.first_ended.ensures.some in
    let late : moment_at c.loop-left.ends.moments c.in-Some.place ≤ c.args.moment = ended.1 in
    let default = get_or_default c.loop-left.ends.moments c.in-Some.place latest 0 ended.0 in
    let fewer = c.visit.ensures.ended c.args.moment (omega arith) c.requires.small (omega (arith, default, late)) in
    record {
      underway = c.visit.ensures.on c.args.moment c.args.stored.now c.args.owners.now (omega arith) c.requires.small c.loop-left.invariant.underway;
      fewer = omega (arith, fewer, c.loop-left.invariant.fewer, c.loop-left-test.true);
      capacity = c.visit.ensures.capacity ∙ c.loop-left.invariant.capacity;
    }

pub returns-in-None-clause-swept : goal.returns-in-None-clause-swept
returns-in-None-clause-swept c = c.loop-left.invariant.underway.so_far

pub returns-in-None-clause-none : goal.returns-in-None-clause-none
returns-in-None-clause-none c = λ last.
    let later = later_zero c.loop-left.ends.moments c.args.moment (when_none c.first_ended.result c.in-None.is c.first_ended.ensures.none) in (
      ended_zero c.args.moment c.loop-left.ends.moments later,
      all_alive c.args.kept.now c.args.moment c.loop-left.owners (each_clean c.args.kept.now c.args.moment c.args.moment c.loop-left.owners.entries c.loop-left.ends.moments c.loop-left.invariant.underway.due later),
    )

pub returns-clause-swept : goal.returns-clause-swept
returns-clause-swept c = c.loop-left.invariant.underway.so_far
