use Rattle.std.proofs.Common.{◌≡◌, ℕ, ◌+◌, ◌<◌, subst, sym, arith}
use Rattle.iterate.specs.declared.phase.Attempt.TheVariants as attempt
use Rattle.iterate.specs.Measure.{left_of_finds}
use Rattle.iterate.proofs.PathTurns.{turned}
use Rattle.iterate.proofs.Handing.{concluding_less, failing_handing, next_less}
use Rattle.iterate.proofs.admitting.pass.Goals as goal

pub returns-then-not-lawful-clause-goes : goal.returns-then-not-lawful-clause-goes
returns-then-not-lawful-clause-goes g c = λ question log attempt h early anew bad.
    turned c.failed.ensures.phase c.failed.ensures.want (failing_handing c.args.port question log c.args.moment _ c.args.handing.next attempt c.args.handing.search.value.path h.is_search.path (bad c.if-not-lawful.true))

pub returns-clause-goes : goal.returns-clause-goes
returns-clause-goes g c = λ question log tried h early anew bad.
    let path = c.args.handing.search.value.path in
    let more : c.saturating_add-after.result ≡ c.args.handing.next + 1 = omega (arith, early, c.saturating_add-after.ensures) in
    c.hand.ensures.goes question log (left_of_finds path c.args.handing.next tried) h (λ find handed. anew) (concluding_less path c.args.handing.next tried)
    (λ few. subst (λ (n : ℕ). left_of_finds path n attempt.Admit < left_of_finds path c.args.handing.next tried) (sym more) (next_less path c.args.handing.next tried (omega (arith, few, more))))
