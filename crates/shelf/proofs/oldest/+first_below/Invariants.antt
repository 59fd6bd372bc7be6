use Rattle.std.proofs.Common.{◌-◌, length}
use Rattle.shelf.proofs.oldest.+first_below.Given as goal

abbrev pub decreases-first_below : goal.decreases-first_below
decreases-first_below l = length l.owners.now.entries - l.node
