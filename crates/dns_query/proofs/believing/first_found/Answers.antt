use Rattle.std.proofs.Common.{◌<◌, length, arith, rules}
use Rattle.neg_rule.specs.Negative.{said_by}
use Rattle.dns_query.specs.Believed.{IsFoundFor}
use Rattle.dns_query.proofs.BelievedLaws.{first_here}
use Rattle.dns_query.proofs.believing.first_found.Goals as goal

pub returns-then-is_found_for : goal.returns-then-is_found_for
returns-then-is_found_for c =
    let within : c.loop-find.find-index < length c.args.finds.now = omega arith in
    first_here (IsFoundFor (record { owner = c.args.owner.now; kind = c.args.kind })) said_by c.args.finds.now c.loop-find.find-index c.find-item.result within c.find-item.is c.loop-find.invariant (search rules)
