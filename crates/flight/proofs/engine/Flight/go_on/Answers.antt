use Rattle.std.proofs.Common.{refl}
use Rattle.flight.proofs.Flying.{heard, missed}
use Rattle.flight.proofs.Settling.{settled_now}
use Rattle.flight.proofs.engine.Flight.go_on.Goals as goal
use Rattle.flight.proofs.engine.Flight.go_on.Goals.{in-Came, in-Nothing, in-Broken}

pub drive-requires-clause-flies : goal.drive-requires-clause-flies
drive-requires-clause-flies g c =
    let waited = c.requires.heard in
    elim c.match-heard.branch [
      | in-Came w ↦ rw w.input-is (heard waited.awaits (rw w.in-Came.is at waited.came))
      | in-Nothing w ↦ rw w.input-is (missed waited.awaits (rw w.in-Nothing.is at waited.came))
      | in-Broken w ↦ rw w.input-is (missed waited.awaits (rw w.in-Broken.is at waited.came))
    ]

pub elsewhere-cause-requires-clause-sends : goal.elsewhere-cause-requires-clause-sends
elsewhere-cause-requires-clause-sends g c = (c.requires.heard.query, c.requires.heard.awaits)

pub returns-in-NoMemory-clause-settles : goal.returns-in-NoMemory-clause-settles
returns-in-NoMemory-clause-settles g c = settled_now _ _ _ _ _ _ c.requires.asked.own refl c.refuse.ensures

pub returns-then-seen-asking-clause-settles : goal.returns-then-seen-asking-clause-settles
returns-then-seen-asking-clause-settles g c = settled_now _ _ _ _ _ _ c.requires.asked.own refl (rw c.elsewhere-cause.ensures.client at c.fail.ensures)

pub returns-in-NoMemory-clause-anew : goal.returns-in-NoMemory-clause-anew
returns-in-NoMemory-clause-anew g c = λ anew. absurd (cc (rw c.in-NoMemory.is at anew))

-- Of no other exchange the question begins anew.
pub returns-then-seen-asking-clause-anew : goal.returns-then-seen-asking-clause-anew
returns-then-seen-asking-clause-anew g c = λ anew.
    elim c.match-heard.branch [
      | in-Came w ↦ absurd (cc (rw w.in-Came.is at anew))
      | in-Nothing w ↦ absurd (cc (rw w.in-Nothing.is at anew))
      | in-Broken w ↦ absurd (cc (rw w.in-Broken.is at anew))
    ]

pub returns-clause-anew : goal.returns-clause-anew
returns-clause-anew g c = λ anew.
    elim c.match-heard.branch [
      | in-Came w ↦ absurd (cc (rw w.in-Came.is at anew))
      | in-Nothing w ↦ absurd (cc (rw w.in-Nothing.is at anew))
      | in-Broken w ↦ absurd (cc (rw w.in-Broken.is at anew))
    ]

pub returns-in-Anew-clause-anew : goal.returns-in-Anew-clause-anew
returns-in-Anew-clause-anew g c = λ anew. c.begin_again.ensures.heeds
