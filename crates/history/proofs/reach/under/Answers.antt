use Rattle.std.proofs.Common.{◌≡◌, ◌∙◌, sym, ap}
use Rattle.std.specs.Prelude.{filter, slice_get}
use Rattle.history.specs.Journal.{lies_under, tickets_of}
use Rattle.history.proofs.ReachLaws.{first_here}
use Rattle.history.proofs.reach.under.Goals as goal

pub returns-then-lies_under : goal.returns-then-lies_under
returns-then-lies_under c =
    first_here (lies_under c.args.ticket c.table_at-table.result) c.args.commands.now c.loop-held.held-index c.held-item.result c.loop-held-test.true c.held-item.is
    (sym c.lies_under.ensures ∙ c.if-lies_under.true) c.loop-held.invariant
    ∙ ap (λ t. slice_get (tickets_of (filter (lies_under c.args.ticket t) c.args.commands.now)) 0) c.table_at-table.ensures
