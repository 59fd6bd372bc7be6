use Rattle.std.proofs.Common.{ℕ, cond, length, ap, arith}
use Rattle.local_zone.proofs.CountsBelowLaws.{from_root}
use Rattle.local_zone.proofs.zoned.uncount_zones.Goals as goal

pub returns-in-Some : goal.returns-in-Some
returns-in-Some c it name =
    omega (arith, c.remove_from.ensures name, c.in-Some.ensures it name, ap {B = ℕ} (λ b. cond b (length c.args.taken.now) 0) (from_root c.in-Some.zone.now.name name))

pub returns-in_default : goal.returns-in_default
returns-in_default c it name = omega (arith, c.in_default.ensures it name)
