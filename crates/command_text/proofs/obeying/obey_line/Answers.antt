use Rattle.std.proofs.Common.{refl, sym}
use Rattle.command_text.specs.Obeying.{Place}
use Rattle.command_text.proofs.obeying.obey_line.Goals as goal

pub returns-in-At-clause-does : goal.returns-in-At-clause-does
returns-in-At-clause-does g c = λ place s m.
    let next : Place = record { history = place.history; moment = c.in-At.given } in
    (next, rw c.in-At.is (c.obey_at.ensures.text, refl), s, sym c.obey_at.ensures.moment)
