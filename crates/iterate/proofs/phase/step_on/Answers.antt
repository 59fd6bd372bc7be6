use Rattle.std.proofs.Common.{List, [], Result, Ok, Err, IfOk, sym, ap, subst}
use Rattle.dns_name.specs.Labels.{Labels}
use Rattle.iterate.specs.declared.phase.Advance.{Advance}
use Rattle.iterate.specs.declared.search.Search.{Search}
use Rattle.iterate.specs.declared.want.Want.{Want}
use Rattle.iterate.specs.Exchanges.{Exchange, exchange, Adds}
use Rattle.iterate.specs.Measure.{left_of_seek, left_of_sending}
use Rattle.iterate.specs.Phase.{IsSeeking, IsWaiting, LooksAt, Suits}
use Rattle.iterate.specs.Room.{LeadsOn}
use Rattle.iterate.proofs.Asking.{left_same}
use Rattle.iterate.proofs.Handing.{each_ok, hands_on}
use Rattle.iterate.proofs.phase.step_on.Goals as goal

-- What holds of a result for each value holds for each value of the result.
ok_for_each : {A E X : Type 0} (H : X → Type 0) (P : X → A → Type 0) (r : Result A E) → ((x : X) → H x → IfOk r (P x)) → IfOk r (λ a. (x : X) → H x → P x a)
ok_for_each H P (Ok a) all = all
ok_for_each H P (Err e) all = tt

pub returns-in-First-clause-goes : goal.returns-in-First-clause-goes
returns-in-First-clause-goes g c = rw c.in-First.is (λ before log want f suits adds.
    c.looked_first.ensures c.args.port f.1.moment _ log
    (subst (λ (w : Want). Adds [] (exchange w c.args.input.now) log) f.1.wanted (subst (λ (l : List Exchange). Adds l (exchange want c.args.input.now) log) f.0 adds))
    (subst (λ (w : Want). Suits w c.args.input.now) f.1.wanted suits))

pub returns-in-Aliasing-clause-goes : goal.returns-in-Aliasing-clause-goes
returns-in-Aliasing-clause-goes g c = rw c.in-Aliasing.is (λ before log want f suits adds.
    c.aliased.ensures.goes c.args.port f.1.moment _ c.args.question.now before log f.0
    (subst (λ (w : Want). Adds before (exchange w c.args.input.now) log) f.1.wanted adds)
    (subst (λ (w : Want). Suits w c.args.input.now) f.1.wanted suits))

pub returns-in-Looking-clause-goes : goal.returns-in-Looking-clause-goes
returns-in-Looking-clause-goes g c = rw c.in-Looking.is (λ before log want f suits adds.
    c.looked_on.ensures c.args.port f.1.moment _ c.args.question.now before log f.0
    (subst (λ (w : Want). Adds before (exchange w c.args.input.now) log) f.1.wanted adds)
    (subst (λ (w : Want). Suits w c.args.input.now) f.1.wanted suits))

pub returns-in-Following-clause-goes : goal.returns-in-Following-clause-goes
returns-in-Following-clause-goes g c = rw c.in-Following.is (λ before log want f suits adds.
    c.followed.ensures c.args.port f.2.moment _ c.args.question.now before log (f.0, f.1)
    (subst (λ (w : Want). Adds before (exchange w c.args.input.now) log) f.2.wanted adds)
    (subst (λ (w : Want). Suits w c.args.input.now) f.2.wanted suits))

pub returns-in-Listing-clause-goes : goal.returns-in-Listing-clause-goes
returns-in-Listing-clause-goes g c = rw c.in-Listing.is (λ before log want f suits adds.
    c.listed.ensures c.args.port f.1.moment c.args.question.now before log f.0
    (subst (λ (w : Want). Adds before (exchange w c.args.input.now) log) f.1.wanted adds)
    (subst (λ (w : Want). Suits w c.args.input.now) f.1.wanted suits))

pub returns-in-Seeking-clause-goes : goal.returns-in-Seeking-clause-goes
returns-in-Seeking-clause-goes g c = rw c.in-Seeking.is (λ before log want f suits adds.
    left_same c.args.port c.args.question.now log c.args.moment _ c.sought.result (ap (λ (x : Search). left_of_seek x c.in-Seeking.stage) c.into_inner-search.ensures)
    (c.sought.ensures f.1.moment c.args.question.now before log (subst (λ (x : Search). IsSeeking c.args.port c.args.question.now before x c.in-Seeking.target c.in-Seeking.stage) (sym c.into_inner-search.ensures) f.0)
    (subst (λ (w : Want). Adds before (exchange w c.args.input.now) log) f.1.wanted adds)
    (subst (λ (w : Want). Suits w c.args.input.now) f.1.wanted suits)))

pub returns-in-Sent-clause-goes : goal.returns-in-Sent-clause-goes
returns-in-Sent-clause-goes g c = rw c.in-Sent.is (λ before log want f suits adds.
    left_same c.args.port c.args.question.now log c.args.moment _ c.came.result (ap (λ (x : Search). left_of_sending x.path) c.into_inner-search-in-Sent.ensures)
    (c.came.ensures.goes c.args.question.now before log want
    (subst (λ (x : Search). IsWaiting c.args.port c.args.question.now before want x c.in-Sent.server c.in-Sent.id c.in-Sent.over) (sym c.into_inner-search-in-Sent.ensures) f) suits adds))

pub returns-in-Admitting-clause-goes : goal.returns-in-Admitting-clause-goes
returns-in-Admitting-clause-goes g c = rw c.in-Admitting.is (λ before log want f suits adds.
    c.admitted.ensures.goes c.args.question.now log (record { before = before; want = want; hearing = f.0; handing = f.1; suits = suits; adds = adds }))

pub returns-in-Admitting-clause-asks : goal.returns-in-Admitting-clause-asks
returns-in-Admitting-clause-asks g c = rw c.in-Admitting.is (hands_on c.in-Admitting.handing.heard.value.harvest.chosen c.in-Admitting.handing.allowed c.in-Admitting.handing.next c.in-Admitting.attempt c.args.moment c.args.input.now c.admitted.result
    (λ find handed. c.admitted.ensures.asks find handed) (λ find n. c.admitted.ensures.further find n))

pub returns-in-Fresh-clause-asks : goal.returns-in-Fresh-clause-asks
returns-in-Fresh-clause-asks g c = rw c.in-Fresh.is (each_ok c.begin.result _ (λ next. tt))

pub returns-in-First-clause-asks : goal.returns-in-First-clause-asks
returns-in-First-clause-asks g c = rw c.in-First.is (each_ok c.looked_first.result _ (λ next. tt))

pub returns-in-Aliasing-clause-asks : goal.returns-in-Aliasing-clause-asks
returns-in-Aliasing-clause-asks g c = rw c.in-Aliasing.is (ok_for_each (LeadsOn c.in-Aliasing.path c.args.input.now) (λ (to : Labels) (next : Advance). LooksAt c.in-Aliasing.path to c.args.moment next) c.aliased.result
    (λ to leads. c.aliased.ensures.follows to leads))

pub returns-in-Looking-clause-asks : goal.returns-in-Looking-clause-asks
returns-in-Looking-clause-asks g c = rw c.in-Looking.is (each_ok c.looked_on.result _ (λ next. tt))

pub returns-in-Following-clause-asks : goal.returns-in-Following-clause-asks
returns-in-Following-clause-asks g c = rw c.in-Following.is (each_ok c.followed.result _ (λ next. tt))

pub returns-in-Listing-clause-asks : goal.returns-in-Listing-clause-asks
returns-in-Listing-clause-asks g c = rw c.in-Listing.is (each_ok c.listed.result _ (λ next. tt))

pub returns-in-Seeking-clause-asks : goal.returns-in-Seeking-clause-asks
returns-in-Seeking-clause-asks g c = rw c.in-Seeking.is (each_ok c.sought.result _ (λ next. tt))

pub returns-in-Sent-clause-asks : goal.returns-in-Sent-clause-asks
returns-in-Sent-clause-asks g c = rw c.in-Sent.is (each_ok c.came.result _ (λ next. tt))
