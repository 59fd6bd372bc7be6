use Rattle.std.proofs.Common.{◌≡◌, ◌++◌, take, drop}
use Rattle.std.specs.Io.BufRead.{take_through}
use Rattle.operators.proofs.operator_turn.first_line.Given as goal

abbrev pub invariant-loop-place : goal.invariant-loop-place
invariant-loop-place l = take l.place l.octets ++ take_through 10 (drop l.place l.octets) ≡ take_through 10 l.octets
