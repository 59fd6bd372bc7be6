use Rattle.std.proofs.Common.{◌<◌, length, arith, rules}
use Rattle.harvest.specs.Learnt.{set_of}
use Rattle.dns_query.specs.Believed.{IsPassingFor}
use Rattle.dns_query.proofs.BelievedLaws.{first_here}
use Rattle.dns_query.proofs.believing.first_passing.Goals as goal

pub returns-then-is_passing_for : goal.returns-then-is_passing_for
returns-then-is_passing_for c =
    let within : c.loop-set.set-index < length c.args.passing.now = omega arith in
    first_here (IsPassingFor (record { owner = c.args.owner.now; kind = c.args.kind })) set_of c.args.passing.now c.loop-set.set-index c.set-item.result within c.set-item.is c.loop-set.invariant (search rules)
