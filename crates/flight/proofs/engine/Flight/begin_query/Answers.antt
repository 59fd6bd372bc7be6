use Rattle.std.proofs.Common.{refl, subst}
use Rattle.history.specs.declared.event.Event.{Event}
use Rattle.flight.specs.FirstLook.{looked, uncalled}
use Rattle.flight.proofs.Looking.{looked_by}
use Rattle.flight.proofs.Settling.{settled_now}
use Rattle.flight.proofs.engine.Flight.begin_query.Goals as goal

pub begin_looked-requires-clause-looked : goal.begin_looked-requires-clause-looked
begin_looked-requires-clause-looked g c = looked_by _ _ c.in-Ok.ensures c.now-moment.ensures (rw c.since-seen.ensures at c.ask-came.ensures.answered)

pub returns-then-seen-since-clause-settles : goal.returns-then-seen-since-clause-settles
returns-then-seen-since-clause-settles g c = settled_now _ _ _ _ _ _ c.requires.own refl (rw c.behind-cause.ensures.client at c.fail.ensures)

pub returns-in-Err-clause-settles : goal.returns-in-Err-clause-settles
returns-in-Err-clause-settles g c = settled_now _ _ _ _ _ _ c.requires.own c.self.view_is (rw c.no_memory.ensures.client at c.fail-in-Err.ensures)

pub returns-clause-settles : goal.returns-clause-settles
returns-clause-settles g c = rw (← c.self.view_is) c.begin_looked.ensures.settles

pub returns-then-seen-since-clause-heeds : goal.returns-then-seen-since-clause-heeds
returns-then-seen-since-clause-heeds g c = uncalled refl

pub returns-in-Err-clause-heeds : goal.returns-in-Err-clause-heeds
returns-in-Err-clause-heeds g c = uncalled refl

pub returns-clause-heeds : goal.returns-clause-heeds
returns-clause-heeds g c =
    let called = c.ask-came.ensures.called in
    let looks = subst (λ (e : Event). g.D.Desk.calls c.args.desk.now e called.0 c.ask-came.new.desk) c.in-Ok.ensures called.1 in
    rw (← c.self.view_is) (looked looks (rw called.2 at c.begin_looked.ensures.heeds))
