use Rattle.std.proofs.Common.{sym}
use Rattle.std.proofs.lemmas.Bool.{eqb-false}
use Rattle.streams.proofs.Held.{heard-held}
use Rattle.streams.proofs.Telling.{last-some}
use Rattle.streams.proofs.engine.finish.Goals as goal

pub returns-clause-told : goal.returns-clause-told
returns-clause-told g c = λ begun is.
    rw (last-some _ begun is (eqb-false _ 0 (sym c.if-is_empty.ensures))) (c.tell.ensures.told begun (heard-held _ begun is))
