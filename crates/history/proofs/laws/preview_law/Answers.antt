use Rattle.std.proofs.Common.{◌≡◌, ℕ, None, Some, [], ◌∷◌, sym, ap, ◌∙◌}
use Rattle.std.proofs.lemmas.List.Sums.{fold-append}
use Rattle.history.specs.declared.event.Reply.TheVariants.{Seen}
use Rattle.history.specs.History.{Past, followed_by, nothing, past_of}
use Rattle.history.specs.PreviewLaws.{answer_moved}
use Rattle.history.specs.Reply.{answer_of, move_at, seen_unless}
use Rattle.history.specs.Journal.{commands_of}
use Rattle.history.specs.Marks.{last_of}
use Rattle.history.proofs.PreviewLaw.{next_shown, none_shown, same_refusal}
use Rattle.history.proofs.laws.preview_law.Goals as goal

pub returns-clause-granted : goal.returns-clause-granted
returns-clause-granted c = λ settings history m step q none.
    let past = past_of settings.journal history in
    let moved = answer_of (followed_by settings.journal past (move_at m step)) q m in
    ap (λ o. Seen (seen_unless o moved)) (same_refusal settings past m step ∙ none)
    ∙ ap (λ (p : Past). Seen (answer_of p q m)) (sym (fold-append (followed_by settings.journal) nothing history (move_at m step ∷ [])))

pub returns-clause-refused : goal.returns-clause-refused
returns-clause-refused c = λ settings history m step q why is.
    let past = past_of settings.journal history in
    let moved = answer_of (followed_by settings.journal past (move_at m step)) q m in
    ap (λ o. Seen (seen_unless o moved)) (same_refusal settings past m step ∙ is)

pub returns-clause-choice : goal.returns-clause-choice
returns-clause-choice c = λ bound past m step q. answer_moved bound past m step q

pub returns-clause-next : goal.returns-clause-next
returns-clause-next c = λ settings history m held shown.
    let past = past_of settings.journal history in next_shown (commands_of past) (last_of past.marks.done) held shown

pub returns-clause-none : goal.returns-clause-none
returns-clause-none c = λ settings history m shown. none_shown settings.journal history shown
