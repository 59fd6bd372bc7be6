use Rattle.std.proofs.Common.{◌≡◌, ℕ, sym, ◌∙◌, subst, rules}
use Rattle.dns_text.specs.declared.record.Question.{Question}
use Rattle.iterate.specs.declared.phase.Phase.{Phase}
use Rattle.iterate.specs.Task.{IsTask, IsDueAt, IsKept}
use Rattle.iterate.specs.Phase.{drawing}
use Rattle.iterate.proofs.Stepping.{stepping, kept_task, kept_steps}
use Rattle.iterate.proofs.task.take_step.Goals as goal

pub returns : goal.returns
returns g c =
    let state = c.args.state.now in
    let next = c.in_ok-next.next in
    let before = c.replace-phase.result in
    let ids = drawing (g.R.Rng.stream c.args.ids.now) (g.R.Rng.stream c.step_on.new.ids) in
    let was : before ≡ state.phase = c.replace-phase.ensures.value in
    let made = stepping state.port state.question state.steps.items c.args.moment ids c.args.input before next.phase next.want
    (subst (λ (p : Phase). IsTask state.port state.question state.steps.items p) (sym was) c.requires.task)
    (subst (λ (p : Phase). IsDueAt p state.steps.items c.args.input) (sym was) c.requires.due)
    (λ log next last f s a. c.in_ok-next.ensures.goes log next last f s a) (λ fresh. c.in_ok-next.ensures.fresh fresh)
    (λ broken. let t = c.in_ok-next.ensures.broken broken in let e : ⊥ = cc in e) in
    let after = c.keep_step.new.state in
    let same = c.in_ok-want.ensures.same in
    let kept : IsKept state c.args.input next after c.in_ok-want.want =
    let k = c.in_ok-want.ensures.ok in record { steps = k.steps; phase = k.phase; wanted = k.wanted } in
    record {
      task = subst (λ (n : ℕ). IsTask n after.question after.steps.items after.phase) (sym same.port)
          (subst (λ (q : Question). IsTask state.port q after.steps.items after.phase) (sym same.question) (kept_task state after next made kept));
      same = record { question = same.question; port = same.port };
      ok = kept_steps state after next was c.in_ok-next.ensures.asks made kept;
      err = search rules;
      broken = λ broken. let t = c.in_ok-next.ensures.broken (was ∙ broken) in let e : ⊥ = cc in absurd e;
    }
