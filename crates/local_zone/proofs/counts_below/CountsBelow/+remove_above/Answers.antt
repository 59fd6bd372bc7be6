use Rattle.local_zone.specs.CountsBelow.{counted}
use Rattle.local_zone.proofs.CountsBelowLaws.{less_above, less_here, view_of}
use Rattle.local_zone.proofs.Keyed.{spelled}
use Rattle.local_zone.proofs.counts_below.CountsBelow.+remove_above.Goals as goal

pub returns-in-Some : goal.returns-in-Some
returns-in-Some t c z =
    let n = c.args.labels.now in
    let p = c.octets_above_from.new.labels in
    let up = c.in-Some.ensures in
    let es = c.self.inside.counts.entries in
    let mid = c.lower.new.counts.entries in
    less_above spelled n p c.in-Some.above.now up.0 up.1 c.args.least c.args.less up.2 z (counted z c.args.self.now) (counted z (view_of spelled n p c.in-Some.above.now up.0 up.1 mid)) (counted z c.remove_above.new.self)
    (less_here spelled n p c.in-Some.above.now up.0 up.1 c.args.self.now es mid c.self.view_is c.args.less c.lower.ensures.count z) (c.remove_above.ensures z)
