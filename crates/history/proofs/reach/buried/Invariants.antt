use Rattle.std.proofs.Common.{◌≡◌, take}
use Rattle.std.specs.Prelude.{filter_map}
use Rattle.history.specs.Journal.{buried_one}
use Rattle.history.proofs.reach.buried.Given as goal

-- those of the commands so far
abbrev pub invariant-loop-held : goal.invariant-loop-held
invariant-loop-held l = l.buried.items ≡ filter_map (buried_one l.commands) (take l.held-index l.commands)
