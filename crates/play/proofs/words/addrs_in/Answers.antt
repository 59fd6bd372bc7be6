use Rattle.std.proofs.Common.{sym, ap, ◌∙◌}
use Rattle.std.specs.Prelude.{option_map}
use Rattle.std.proofs.lemmas.Result.{err_from_is_err_and}
use Rattle.dns_text.specs.Addr.{addr_in}
use Rattle.play.proofs.WordsSoFar.{said_more, said_all, says_nothing}
use Rattle.play.proofs.words.addrs_in.Goals as goal

pub returns-in_err-addr_in-clause-err : goal.returns-in_err-addr_in-clause-err
returns-in_err-addr_in-clause-err c =
    let p = err_from_is_err_and c.from_residual.result c.from_residual.ensures.1 in
    rw (p.1, p.2) (says_nothing addr_in _ _ _ _ _ _ c.loop-word.invariant (sym c.in-Some.ensures.value) (λ other. sym c.in_err-addr_in.ensures))

pub loop-word-preserved : goal.loop-word-preserved
loop-word-preserved c =
    rw c.in_ok-push.ensures.items (said_more addr_in _ _ _ _ _ _ c.loop-word.invariant (sym c.in-Some.ensures.value) (sym c.in_ok-addr_in.ensures))

pub returns-clause-ok : goal.returns-clause-ok
returns-clause-ok c =
    said_all addr_in _ _ _ c.loop-word.invariant (sym c.next_word.ensures.value ∙ ap (option_map (λ r. (r.0.now, r.1.now))) c.in_default.is)
