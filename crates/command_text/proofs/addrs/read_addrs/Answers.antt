use Rattle.std.proofs.Common.{List, Ok, sym, ap, subst, ◌∙◌}
use Rattle.std.specs.Prelude.{option_map}
use Rattle.std.proofs.lemmas.Result.{err_from_is_err_and}
use Rattle.dns_text.specs.declared.addr.Addr.{Addr}
use Rattle.command_text.proofs.AddrWords.{Left, read-more, read-fails, read-all}
use Rattle.command_text.proofs.addrs.read_addrs.Goals as goal

pub returns-in_err-read_address : goal.returns-in_err-read_address
returns-in_err-read_address c =
    let p = err_from_is_err_and c.from_residual.result c.from_residual.ensures.1 in
    rw (p.1, p.2) (read-fails _ _ _ _ _ _ c.loop-word.invariant (sym c.in-Some.ensures.value) (sym c.in_err-read_address.ensures))

pub loop-word-preserved : goal.loop-word-preserved
loop-word-preserved c =
    subst (λ (l : List Addr). Left c.args.text.now c.in-Some.after.now l) (sym c.in_ok-push.ensures.items)
    (read-more _ _ _ _ _ _ c.loop-word.invariant (sym c.in-Some.ensures.value) (sym c.in_ok-read_address.ensures))

pub returns : goal.returns
returns c =
    read-all _ _ _ c.loop-word.invariant (sym c.next_word.ensures.value ∙ ap (option_map (λ r. (r.0.now, r.1.now))) c.in_default.is)
    ∙ ap (λ (l : List Addr). Ok l) (sym c.new.ensures)
