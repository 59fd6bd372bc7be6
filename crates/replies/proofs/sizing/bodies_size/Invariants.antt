use Rattle.std.proofs.Common.{◌≡◌, take}
use Rattle.replies.specs.Sizing.{bodies_size, capped}
use Rattle.replies.proofs.sizing.bodies_size.Given as goal

abbrev pub invariant-loop-body : goal.invariant-loop-body
invariant-loop-body l = l.total ≡ capped (bodies_size l.owner (take l.body-index l.bodies))
