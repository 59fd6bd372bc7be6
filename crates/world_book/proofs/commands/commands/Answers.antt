use Rattle.std.proofs.Common.{◌++◌, List, ◌∙◌, sym, ap}
use Rattle.history.specs.declared.event.Journalled.{Journalled}
use Rattle.world_book.specs.Held.{held_in}
use Rattle.world_book.proofs.HeldLaws.{held_next}
use Rattle.std.specs.Prelude.{take, drop}
use Rattle.world_book.proofs.commands.commands.Goals as goal

pub loop-place-preserved : goal.loop-place-preserved
loop-place-preserved g c =
    let told = g.C.World.World.told in
    let kept = c.args.journal.now.kept in
    c.in_ok-push_held.ensures ∙ ap (λ (l : List Journalled). l ++ held_in told (take 1 (drop c.loop-place.place kept))) c.loop-place.invariant ∙ sym (held_next told kept c.loop-place.place)
