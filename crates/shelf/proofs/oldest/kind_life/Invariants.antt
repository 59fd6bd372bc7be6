use Rattle.std.proofs.Common.{◌≡◌, take}
use Rattle.shelf.specs.First.{cell_at_name, kind_life}
use Rattle.shelf.proofs.oldest.kind_life.Given as goal

-- the end by the flushes so far
abbrev pub invariant-loop-own : goal.invariant-loop-own
invariant-loop-own l = l.end ≡ kind_life (take l.own-index l.kept) (cell_at_name l.settlings l.name l.cells l.kind) (record { owner = l.name; kind = l.kind })
