use Rattle.std.proofs.Common.{ℕ, cond, length, ap, arith}
use Rattle.local_zone.proofs.CountsBelowLaws.{from_root, on_ok}
use Rattle.local_zone.proofs.zoned.count_zones.Goals as goal

pub returns-in-Some-clause-ok : goal.returns-in-Some-clause-ok
returns-in-Some-clause-ok c =
    on_ok c.add_from.result
    (λ more it name. omega (arith, more name, c.in-Some.ensures it name, ap {B = ℕ} (λ b. cond b (length c.args.taken.now) 0) (from_root c.in-Some.zone.now.name name)))
    c.add_from.ensures.ok

pub returns-in-None-clause-ok : goal.returns-in-None-clause-ok
returns-in-None-clause-ok c it name = omega (arith, c.in-None.ensures it name)
