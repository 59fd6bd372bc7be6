use Rattle.std.proofs.Common.{◌∷◌, [], sym, ap, ◌∙◌}
use Rattle.std.specs.Prelude.{option_map}
use Rattle.std.proofs.lemmas.Result.{err_from_is_err_and}
use Rattle.std.proofs.lemmas.List.{map-append}
use Rattle.play.specs.Words.{octets_in}
use Rattle.play.proofs.WordsSoFar.{said_more, said_all, says_nothing}
use Rattle.play.proofs.words.pieces_in.Goals as goal

pub returns-in_err-octets_in-clause-err : goal.returns-in_err-octets_in-clause-err
returns-in_err-octets_in-clause-err c =
    let p = err_from_is_err_and c.from_residual.result c.from_residual.ensures.1 in
    rw (p.1, p.2) (says_nothing octets_in _ _ _ _ _ _ c.loop-word.invariant (sym c.in-Some.ensures.value) c.in_err-octets_in.ensures)

pub loop-word-preserved : goal.loop-word-preserved
loop-word-preserved c =
    rw (c.in_ok-push.ensures.items, map-append (λ v. v.items) c.loop-word.pieces.items (c.in_ok-octets_in.field-0 ∷ []))
    (said_more octets_in _ _ _ _ _ _ c.loop-word.invariant (sym c.in-Some.ensures.value) c.in_ok-octets_in.ensures)

pub returns-clause-ok : goal.returns-clause-ok
returns-clause-ok c =
    said_all octets_in _ _ _ c.loop-word.invariant (sym c.next_word.ensures.value ∙ ap (option_map (λ r. (r.0.now, r.1.now))) c.in_default.is)
