use Rattle.std.proofs.Common.{◌≡◌, ◌∙◌, None, arith}
use Rattle.std.proofs.lemmas.Grind.{common_steps}
use Rattle.shelf.proofs.VisitLaws.{all_alive, each_clean, ended_zero, later_zero, tallied_on, when_none}
use Rattle.shelf.proofs.sweep.sweep_ended.Goals as goal

pub loop-place-preserved : goal.loop-place-preserved
loop-place-preserved c = record {
  underway = c.visit.ensures.on c.args.asked c.args.stored.now c.args.owners.now c.requires.before.0 c.requires.before.1 c.loop-place.invariant.underway;
  capacity = c.visit.ensures.capacity ∙ c.loop-place.invariant.capacity;
}

pub returns-clause-alive : goal.returns-clause-alive
returns-clause-alive c =
    let none : c.first_ended.result ≡ None = grind (arith, common_steps) in
    let later = later_zero c.loop-place.ends.moments c.args.asked (when_none c.first_ended.result none c.first_ended.ensures.none) in
    all_alive c.args.kept.now c.args.moment c.loop-place.owners (each_clean c.args.kept.now c.args.moment c.args.asked c.loop-place.owners.entries c.loop-place.ends.moments c.loop-place.invariant.underway.due later)

pub returns-clause-none : goal.returns-clause-none
returns-clause-none c =
    let none : c.first_ended.result ≡ None = grind (arith, common_steps) in
    ended_zero c.args.asked c.loop-place.ends.moments (later_zero c.loop-place.ends.moments c.args.asked (when_none c.first_ended.result none c.first_ended.ensures.none))

pub visit-requires-clause-tallied : goal.visit-requires-clause-tallied
visit-requires-clause-tallied c = tallied_on c.args.kept.now c.args.moment c.args.asked c.args.stored.now c.loop-place.stored c.args.owners.now c.loop-place.owners c.loop-place.ends c.requires.top c.loop-place.invariant.underway
