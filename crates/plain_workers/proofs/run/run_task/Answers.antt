use Rattle.std.proofs.Common.{◌≡◌, ◌∙◌, refl, subst}
use Rattle.iterate.specs.declared.task.State.{State}
use Rattle.iterate.specs.Task.{IsTask}
use Rattle.plain_workers.specs.Leads.{begins, goes_on, in_the_task}
use Rattle.plain_workers.proofs.Failing.{failing}
use Rattle.plain_workers.proofs.Leading.{due, draws_at, lists_at, breaks_off, ends}
use Rattle.plain_workers.proofs.run.run_task.Goals as goal

pub loop-task-init : goal.loop-task-init
loop-task-init g c = record { leads = rw c.new-task.ensures.steps begins; question = c.new-task.ensures.question; port = c.new-task.ensures.port; kept = refl }

pub step-requires : goal.step-requires
step-requires g c = due c.due_law.ensures.first c.due_law.ensures.next c.loop-task.task.phase c.loop-task.invariant.leads

pub loop-task-preserved : goal.loop-task-preserved
loop-task-preserved g c =
    let task = c.loop-task.task in
    let draws = draws_at c.args.tools.now.server_port task.port c.args.question task.question c.now-moment.result
    c.loop-task.invariant.port c.loop-task.invariant.question c.now-moment.ensures c.in_ok-want.ensures.ok.steps c.in_ok-want.ensures.ok.wants c.in_ok-want.ensures.ok.drawn in
    let is_task : IsTask c.step.new.self.port c.step.new.self.question c.step.new.self.steps.items c.step.new.self.phase =
    subst (λ (s : State). IsTask s.port s.question s.steps.items s.phase) c.task.view_is c.task.invariant in
    let listed = lists_at c.step.new.self.phase c.args.tools.now.server_port c.step.new.self.port c.args.question c.step.new.self.question
    (c.step.ensures.same.port ∙ c.loop-task.invariant.port) (c.step.ensures.same.question ∙ c.loop-task.invariant.question) is_task c.hunt.ensures in
    record {
      leads = goes_on c.loop-task.invariant.leads draws listed (rw c.in-Go.is at c.in_ok-next.ensures.turns);
      question = c.step.ensures.same.question ∙ c.loop-task.invariant.question;
      port = c.step.ensures.same.port ∙ c.loop-task.invariant.port;
      kept = c.loop-task.invariant.kept;
    }

pub returns-in_err-want-clause-breaks_off : goal.returns-in_err-want-clause-breaks_off
returns-in_err-want-clause-breaks_off g c = failing c.from_residual.result _ (in_the_task c.loop-task.invariant.leads c.now-moment.ensures)

pub returns-in_err-next-clause-breaks_off : goal.returns-in_err-next-clause-breaks_off
returns-in_err-next-clause-breaks_off g c =
    let task = c.loop-task.task in
    let draws = draws_at c.args.tools.now.server_port task.port c.args.question task.question c.now-moment.result
    c.loop-task.invariant.port c.loop-task.invariant.question c.now-moment.ensures c.in_ok-want.ensures.ok.steps c.in_ok-want.ensures.ok.wants c.in_ok-want.ensures.ok.drawn in
    let is_task : IsTask c.step.new.self.port c.step.new.self.question c.step.new.self.steps.items c.step.new.self.phase =
    subst (λ (s : State). IsTask s.port s.question s.steps.items s.phase) c.task.view_is c.task.invariant in
    let listed = lists_at c.step.new.self.phase c.args.tools.now.server_port c.step.new.self.port c.args.question c.step.new.self.question
    (c.step.ensures.same.port ∙ c.loop-task.invariant.port) (c.step.ensures.same.question ∙ c.loop-task.invariant.question) is_task c.hunt.ensures in
    failing c.from_residual-in_err-next.result _ (breaks_off c.loop-task.invariant.leads draws listed c.in_err-next.ensures.lacks)

pub returns-in-Done-clause-ends : goal.returns-in-Done-clause-ends
returns-in-Done-clause-ends g c =
    let task = c.loop-task.task in
    let draws = draws_at c.args.tools.now.server_port task.port c.args.question task.question c.now-moment.result
    c.loop-task.invariant.port c.loop-task.invariant.question c.now-moment.ensures c.in_ok-want.ensures.ok.steps c.in_ok-want.ensures.ok.wants c.in_ok-want.ensures.ok.drawn in
    let done = rw c.in-Done.is at c.in_ok-next.ensures.turns in
    ends c.loop-task.invariant.leads draws done.0 done.1 done.2
