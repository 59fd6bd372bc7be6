use Rattle.std.proofs.Common.{None, refl}
use Rattle.local_zone.proofs.CountsBelowLaws.{changed, lowered, lowered_above}
use Rattle.local_zone.proofs.Keyed.{spelled}
use Rattle.local_zone.proofs.counts_below.lower.Goals as goal

pub returns-then-lower_count-clause-count : goal.returns-then-lower_count-clause-count
returns-then-lower_count-clause-count c =
    let es = c.args.counts.now.entries in
    let o = c.args.octets.now in
    let mid = c.lower_count.new.counts.entries in
    let after = c.swap_remove.new.self.entries in
    lowered spelled o es mid after c.lower_count.ensures.others (changed spelled o mid after None c.swap_remove.ensures.updates.1 c.swap_remove.ensures.updates.3) c.args.less c.lower_count.ensures.here (c.if-lower_count.ensures.empty refl)

pub returns-then-lower_count-clause-above_zero : goal.returns-then-lower_count-clause-above_zero
returns-then-lower_count-clause-above_zero c =
    let es = c.args.counts.now.entries in
    let o = c.args.octets.now in
    let mid = c.lower_count.new.counts.entries in
    let after = c.swap_remove.new.self.entries in
    lowered_above spelled o es mid after c.lower_count.ensures.others (changed spelled o mid after None c.swap_remove.ensures.updates.1 c.swap_remove.ensures.updates.3)
