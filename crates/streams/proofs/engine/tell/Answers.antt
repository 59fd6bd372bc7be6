use Rattle.streams.specs.Transcript.{paired}
use Rattle.streams.proofs.Telling.{tells-one, tells-last, tells-front}
use Rattle.streams.proofs.engine.tell.Goals as goal

pub returns-then-stops-clause-told : goal.returns-then-stops-clause-told
returns-then-stops-clause-told g c = λ whole heard.
    let obeyed = rw c.if-stops.true at c.obey-text.ensures.obeys whole heard in
    let sent = rw c.as_slice.ensures at c.in-Ok.ensures.sent in
    tells-last _ (paired g.O.Obeyer.obeys) _ _ whole _ _ _ obeyed sent

pub returns-in-Ok-clause-told : goal.returns-in-Ok-clause-told
returns-in-Ok-clause-told g c = λ whole heard.
    let obeyed = rw c.if-stops.false at c.obey-text.ensures.obeys whole heard in
    let sent = rw c.as_slice.ensures at c.in-Ok.ensures.sent in
    tells-one _ (paired g.O.Obeyer.obeys) _ _ whole _ _ _ obeyed sent

pub returns-clause-told : goal.returns-clause-told
returns-clause-told g c = λ whole heard.
    let sent = rw c.as_slice.ensures at c.in-Err.ensures.sent in
    tells-front _ (paired g.O.Obeyer.obeys) _ _ whole _ _ sent.0 _ _ (c.obey-text.ensures.obeys whole heard) sent.1
