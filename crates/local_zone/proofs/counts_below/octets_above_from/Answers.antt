use Rattle.std.proofs.Common.{length, ap, arith}
use Rattle.local_zone.proofs.CountsBelowLaws.{beyond}
use Rattle.local_zone.proofs.counts_below.octets_above_from.Goals as goal

pub returns-then-above-least : goal.returns-then-above-least
returns-then-above-least c name =
    let up = c.in_ok-above.ensures in
    beyond c.args.least c.args.labels.now c.octets_above.new.labels name up.0 (omega (arith, c.if-above-least.true, ap length up.1))
