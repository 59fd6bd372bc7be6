use Rattle.std.proofs.Common.{inl, sym, subst}
use Rattle.std.specs.Prelude.{None}
use Rattle.iterate.specs.declared.answer.Answer.{Answer}
use Rattle.replies.specs.Reply.{Tells}
use Rattle.flight.specs.Told.{silent}
use Rattle.flight.proofs.telling.tell.Goals as goal

pub pass_over-requires-clause-untold : goal.pass_over-requires-clause-untold
pass_over-requires-clause-untold g c = silent c.requires.good (rw c.in-Silent.is at c.requires.lands)

pub returns-in-Silent : goal.returns-in-Silent
returns-in-Silent g c =
    let tells = subst (λ (answer : Answer). Tells (g.K.Client.over c.args.client) c.args.octets.now c.args.query.now answer None) (sym c.in-Silent.is) tt in
    (None, inl tells, c.pass_over.ensures)
