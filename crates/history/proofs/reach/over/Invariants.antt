use Rattle.std.proofs.Common.{◌≡◌, [], take, drop}
use Rattle.std.specs.Prelude.{filter}
use Rattle.history.specs.Journal.{lies_on, tickets_of}
use Rattle.history.specs.Marks.{last_of}
use Rattle.history.proofs.reach.over.Given as goal

abbrev pub invariant-loop-held : goal.invariant-loop-held
invariant-loop-held l = l.last ≡ last_of (tickets_of (filter (lies_on l.ticket l.table) (take l.held-index l.commands)))
