use Rattle.std.proofs.Common.{◌≡◌, take}
use Rattle.shelf.specs.Settling.{settled_version}
use Rattle.shelf.proofs.settling.settled_version.Given as goal

-- the version by the flushes so far
abbrev pub invariant-loop-own : goal.invariant-loop-own
invariant-loop-own l = l.last ≡ settled_version (take l.own-index l.settlings) l.owner l.version
