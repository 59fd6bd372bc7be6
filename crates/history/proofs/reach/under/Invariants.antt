use Rattle.std.proofs.Common.{◌≡◌, [], take, drop}
use Rattle.std.specs.Prelude.{filter}
use Rattle.history.specs.Journal.{lies_under}
use Rattle.history.proofs.reach.under.Given as goal

abbrev pub invariant-loop-held : goal.invariant-loop-held
invariant-loop-held l = filter (lies_under l.ticket l.table) (take l.held-index l.commands) ≡ []
