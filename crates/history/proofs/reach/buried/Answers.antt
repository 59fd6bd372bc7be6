use Rattle.std.proofs.Common.{◌≡◌, ◌∙◌, ◌++◌, [], List, sym, ap}
use Rattle.std.specs.List.{cons_option}
use Rattle.history.specs.declared.event.BuriedCommand.{BuriedCommand}
use Rattle.history.specs.Journal.{buried_one}
use Rattle.history.proofs.ReachLaws.{filter_map_more}
use Rattle.history.proofs.reach.buried.Goals as goal

pub loop-held-preserved : goal.loop-held-preserved
loop-held-preserved c =
    c.in_ok-push_buried.ensures
    ∙ ap (λ (l : List BuriedCommand). l ++ cons_option (buried_one c.args.commands.now c.held-item.result) []) c.loop-held.invariant
    ∙ sym (filter_map_more (buried_one c.args.commands.now) c.args.commands.now c.loop-held.held-index c.held-item.result c.loop-held-test.true c.held-item.is)
