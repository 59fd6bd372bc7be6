use Rattle.std.proofs.Common.{◌≡◌, [], take, drop}
use Rattle.std.specs.Prelude.{filter}
use Rattle.history.specs.Journal.{table_at}
use Rattle.history.proofs.reach.table_at.Given as goal

abbrev pub invariant-loop-held : goal.invariant-loop-held
invariant-loop-held l = table_at l.commands l.ticket ≡ table_at (drop l.held-index l.commands) l.ticket
