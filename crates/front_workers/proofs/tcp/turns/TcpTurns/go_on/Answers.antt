use Rattle.std.proofs.Common.{◌∙◌, arith, sym, subst}
use Rattle.clock.specs.Moments.{ClockState, millis_at}
use Rattle.flight.specs.Waiting.{EarlyGoOn, IsPatient, IsTimely}
use Rattle.front_workers.proofs.Flowing.{streams_then}
use Rattle.front_workers.proofs.Relieving.{patient_on, timely_on}
use Rattle.front_workers.proofs.tcp.turns.TcpTurns.go_on.Goals as goal

pub returns-clause-goes_on : goal.returns-clause-goes_on
returns-clause-goes_on g c = streams_then _ _ _ _ _ _ c.look.ensures.goes_on (streams_then _ _ _ _ _ _ c.expire.ensures.goes_on c.relieve.ensures.goes_on)

pub returns-clause-patient : goal.returns-clause-patient
returns-clause-patient g c =
    patient_on 2000 _ c.expire.new.questions c.relieve.new.questions c.relieve.ensures.others
    (subst (λ (new : ClockState). IsPatient 2000 (millis_at new.last) c.expire.new.questions) (sym c.relieve.ensures.clock) c.expire.ensures.patient)

pub returns-clause-timely : goal.returns-clause-timely
returns-clause-timely g c =
    timely_on 10000 _ c.expire.new.questions c.relieve.new.questions c.relieve.ensures.others
    (subst (λ (new : ClockState). IsTimely 10000 (millis_at new.last) c.expire.new.questions) (sym c.relieve.ensures.clock) c.expire.ensures.timely)

pub returns-clause-looks : goal.returns-clause-looks
returns-clause-looks g c = record {
  between = c.look.new.questions;
  mid = c.look.new.self.counts;
  looked = c.look.ensures.looked;
  left = c.expire.ensures.early.0;
  early = subst (λ (new : ClockState). EarlyGoOn 2000 (millis_at new.last) c.look.new.questions c.expire.ensures.early.0) (sym c.relieve.ensures.clock) c.expire.ensures.early.1;
  anew = c.expire.new.questions;
  joins_none = c.expire.ensures.early.2;
  relieves = c.relieve.ensures.relieves;
  relieved = c.relieve.ensures.relieved;
  listened = omega (arith, c.expire.ensures.goes_on.accounts.never_fall.listened, c.relieve.ensures.goes_on.accounts.never_fall.listened);
}

pub returns-clause-reported : goal.returns-clause-reported
returns-clause-reported g c = c.relieve.ensures.reported ∙ c.expire.ensures.reported ∙ c.look.ensures.reported
