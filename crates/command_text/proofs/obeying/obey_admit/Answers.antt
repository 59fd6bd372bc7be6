use Rattle.std.proofs.Common.{ℕ, inl, sym, subst, ◌∙◌}
use Rattle.streams.specs.Text.{octets_in}
use Rattle.history.specs.declared.event.Event.TheVariants.{Admit}
use Rattle.command_text.specs.Obeying.{Asks}
use Rattle.command_text.proofs.obeying.obey_admit.Goals as goal

pub returns-in-Ok-clause-does : goal.returns-in-Ok-clause-does
returns-in-Ok-clause-does g c = λ place s m.
    let told = c.ask.ensures.asks place s in
    let find = c.in-Ok.find in
    let asks = subst (λ (n : ℕ). Asks (g.B.Book.settings c.args.book.now) place (Admit n find) (octets_in c.ask.result) told.0) (sym m) told.1 in
    (told.0, inl (find, c.in-Ok.ensures, asks), told.2, told.3 ∙ m)
