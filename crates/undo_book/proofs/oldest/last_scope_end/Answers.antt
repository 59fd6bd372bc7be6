use Rattle.std.proofs.Common.{◌≡◌, ℕ, List, ap, max, map, ◌∙◌, arith}
use Rattle.std.specs.Prelude.{fold}
use Rattle.std.proofs.lemmas.List.{take_all}
use Rattle.history.specs.declared.event.Journalled.{Journalled}
use Rattle.history.specs.Journal.{commands_of, tickets_of}
use Rattle.history.specs.OldestFound.{scope_end, settled_of, with_ticket}
use Rattle.undo_book.specs.PlainPast.{past_in}
use Rattle.undo_book.proofs.EndsLaws.{fold_choices}
use Rattle.undo_book.proofs.oldest.last_scope_end.Goals as goal

pub returns : goal.returns
returns c =
    let past = past_in c.args.past.now in
    let t = c.args.moment in
    let owner = c.args.owner.now in
    let scope = c.args.scope in
    let journal = c.args.journal.now in
    let first : ℕ = scope_end past t owner scope (settled_of past) in
    let from : first ≡ max 0 first = omega arith in
    c.loop-command.invariant
    ∙ ap (λ (l : List Journalled). fold (λ end command. max end (scope_end past t owner scope (with_ticket past command.ticket))) first l)
    (take_all c.loop-command.command-index journal c.loop-command-test.false ∙ c.requires.journal)
    ∙ fold_choices past t owner scope (commands_of past) first
    ∙ ap (λ (n : ℕ). fold max n (map (scope_end past t owner scope) (map (with_ticket past) (tickets_of (commands_of past))))) from
