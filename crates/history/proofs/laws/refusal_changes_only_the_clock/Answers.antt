use Rattle.std.proofs.Common.{◌≡◌, [], ◌∷◌, sym, subst}
use Rattle.std.proofs.lemmas.List.Sums.{fold-append}
use Rattle.history.specs.History.{Past, followed_by, nothing, past_of}
use Rattle.history.specs.Refusal.{SameButClock}
use Rattle.history.proofs.RefusalLaw.{refused}
use Rattle.history.proofs.laws.refusal_changes_only_the_clock.Goals as goal

pub returns : goal.returns
returns c = λ settings history event e.
    subst (λ (after : Past). SameButClock (past_of settings.journal history) after event) (sym (fold-append (followed_by settings.journal) nothing history (event ∷ [])))
    (refused settings (past_of settings.journal history) event e)
