use Rattle.std.proofs.Common.{◌≡◌, arith, refl, rules, subst, sym}
use Rattle.clock.specs.Moments.{ClockState, millis_at}
use Rattle.front_workers.specs.Accounts.{KeepsTime}
use Rattle.front_workers.specs.Begun.{begun as begun_now, passed, refused}
use Rattle.front_workers.proofs.Accounting.{begun, latest_begun, stayed, time_at}
use Rattle.front_workers.proofs.Outboxes.{asking_kept, ends_of}
use Rattle.front_workers.proofs.Beginning.{own_ends, sent_by, too_long}
use Rattle.front_workers.proofs.Posting.{endings_none, endings_of, endings_refused, endings_within}
use Rattle.front.proofs.Sending.{posts_none}
use Rattle.front_workers.proofs.turns.Turns.begin.Goals as goal

pub returns-in-Passed-clause-goes_on : goal.returns-in-Passed-clause-goes_on
returns-in-Passed-clause-goes_on g c = stayed _ _ _ (endings_none (posts_none refl) refl) refl refl refl refl (omega arith)

pub returns-in-Passed-clause-just : goal.returns-in-Passed-clause-just
returns-in-Passed-clause-just g c = passed c.in-Passed.ensures refl refl

pub refuse-requires-clause-came : goal.refuse-requires-clause-came
refuse-requires-clause-came g c = too_long g.S.ServiceSocket.takes c.args.slot.now.came_so c.in-TooLong.ensures

pub returns-in-TooLong-clause-goes_on : goal.returns-in-TooLong-clause-goes_on
returns-in-TooLong-clause-goes_on g c =
    rw (← c.self.view_is) (stayed _ _ _ (endings_refused (too_long g.S.ServiceSocket.takes c.args.slot.now.came_so c.in-TooLong.ensures) c.refuse.ensures.refuses) refl c.refuse.ensures.counts refl c.refuse.ensures.asks (omega arith))

pub returns-in-TooLong-clause-just : goal.returns-in-TooLong-clause-just
returns-in-TooLong-clause-just g c = rw (← c.self.view_is) (refused c.in-TooLong.ensures c.refuse.ensures.refuses refl refl c.refuse.ensures.counts)

pub begin-requires : goal.begin-requires
begin-requires g c =
    let query = c.in-Query.ensures in
    record { own = rw c.count.ensures.same (sent_by g.S.ServiceSocket.takes c.in-Query.client c.args.slot.now.came_so query.0 query.3) }

pub returns-in-Query-clause-goes_on : goal.returns-in-Query-clause-goes_on
returns-in-Query-clause-goes_on g c =
    let old = c.args.questions.now in
    let new = c.begin.new.self in
    let opened : c.self-in-Query.inside.clock ≡ c.args.self.now.clock = search rules in
    let asks = asking_kept c.begin.ensures.settles.ends in
    let kept : c.self-in-Query-2.inside.clock ≡ c.args.self.now.clock = search rules in
    let read = subst (λ (clock : ClockState). c.last_millis-now.result ≡ millis_at clock.last) opened c.last_millis-now.ensures in
    let time = time_at c.last_millis-now.result old new c.args.self.now.clock (omega (arith, read)) (latest_begun c.last_millis-now.result _ old new c.begin.ensures.settles.waits) in
    record {
      accounts = begun _ _ _ _ (search rules) (search rules) (endings_within (search rules) refl (endings_of (ends_of c.begin.ensures.settles.ends)));
      keeps = record {
        within = search rules;
        bounded = search rules;
        limit = search rules;
        failures = search rules;
        time = subst (λ (clock : ClockState). KeepsTime c.args.self.now.clock old clock new) (sym kept) time;
        asking = search rules;
      };
    }

pub returns-in-Query-clause-just : goal.returns-in-Query-clause-just
returns-in-Query-clause-just g c = begun_now c.in-Query.ensures (search rules) (own_ends (search rules) refl (ends_of c.begin.ensures.settles.ends) c.begin.ensures.settles.own)
