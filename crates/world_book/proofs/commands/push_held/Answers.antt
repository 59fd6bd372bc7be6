use Rattle.std.proofs.Common.{◌++◌, ◌∷◌, [], List, ◌∙◌, sym, ap}
use Rattle.std.proofs.lemmas.List.{append-nil}
use Rattle.change_law.specs.declared.kept.KeptChange.{KeptChange}
use Rattle.history.specs.declared.event.Journalled.{Journalled}
use Rattle.world_book.specs.Held.{held_in}
use Rattle.world_book.proofs.HeldLaws.{one_there, none_there}
use Rattle.world_book.proofs.commands.push_held.Goals as goal

pub returns-in_ok-push-in-Some : goal.returns-in_ok-push-in-Some
returns-in_ok-push-in-Some g c =
    let told = g.C.World.World.told in
    let before = c.args.commands.now.items in
    let there = one_there c.args.journal.now.kept c.args.place c.in-Some.kept.now (sym c.in-Some.ensures) in
    c.in_ok-push-in-Some.ensures.items ∙ ap (λ (j : Journalled). before ++ j ∷ []) c.in_ok-held_one-in-Some.ensures ∙ ap (λ (l : List (KeptChange _)). before ++ held_in told l) (sym there)

pub returns-in-None : goal.returns-in-None
returns-in-None g c =
    let told = g.C.World.World.told in
    let before = c.args.commands.now.items in
    let none = none_there c.args.journal.now.kept c.args.place (sym c.in-None.ensures) in
    sym (ap (λ (l : List (KeptChange _)). before ++ held_in told l) none ∙ append-nil before)
