use Rattle.std.proofs.Common.{◌≡◌, ◌+◌, ◌-◌, cond, sym, ◌∙◌, arith}
use Rattle.dns_name.specs.Order.{name_eq}
use Rattle.local_zone.specs.CountsBelow.{counted}
use Rattle.local_zone.proofs.CountsBelowLaws.{is_err_of, less_here, more_above, more_here, on_err, on_ok, same_here, view_of}
use Rattle.local_zone.proofs.Keyed.{spelled}
use Rattle.local_zone.proofs.counts_below.CountsBelow.+add_above.Goals as goal

pub returns-in_err-raise-clause-err : goal.returns-in_err-raise-clause-err
returns-in_err-raise-clause-err t c =
    let n = c.args.labels.now in
    let p = c.octets_above_from.new.labels in
    let up = c.in-Some.ensures in
    on_err c.from_residual.result (same_here spelled n p c.in-Some.above.now up.0 up.1 c.args.self.now c.self.inside.counts.entries c.raise.new.counts.entries c.self.view_is c.in_err-raise.ensures.err)

pub returns-then-is_err-clause-err : goal.returns-then-is_err-clause-err
returns-then-is_err-clause-err t c =
    let n = c.args.labels.now in
    let p = c.octets_above_from.new.labels in
    let o = c.in-Some.above.now in
    let up = c.in-Some.ensures in
    let failed = sym c.is_err.ensures.value ∙ c.if-is_err.true in
    let mid = c.raise.new.counts.entries in
    on_err c.add_above-added.result (λ z.
    let a = counted z c.args.self.now in
    let more : counted z (view_of spelled n p o up.0 up.1 mid) ≡ a + cond (name_eq p z) c.args.more 0
    = more_here spelled n p o up.0 up.1 c.args.self.now c.self.inside.counts.entries mid c.self.view_is c.args.more c.in_ok-raise.ensures.ok z in
    let same : counted z c.add_above-added.new.self ≡ counted z (view_of spelled n p o up.0 up.1 mid) = is_err_of c.add_above-added.result failed c.add_above-added.ensures.err z in
    let less : counted z (view_of spelled n p o up.0 up.1 c.lower.new.counts.entries) ≡ counted z c.add_above-added.new.self - cond (name_eq p z) c.args.more 0
    = less_here spelled n p o up.0 up.1 c.add_above-added.new.self c.self-2.inside.counts.entries c.lower.new.counts.entries c.self-2.view_is c.args.more c.lower.ensures.count z in
    omega (arith, more, same, less))

pub returns-else-is_err-clause-ok : goal.returns-else-is_err-clause-ok
returns-else-is_err-clause-ok t c =
    let n = c.args.labels.now in
    let p = c.octets_above_from.new.labels in
    let o = c.in-Some.above.now in
    let up = c.in-Some.ensures in
    let mid = c.raise.new.counts.entries in
    on_ok c.add_above-added.result (λ rest z.
    more_above spelled n p o up.0 up.1 c.args.least c.args.more up.2 z (counted z c.args.self.now) (counted z (view_of spelled n p o up.0 up.1 mid)) (counted z c.add_above-added.new.self)
    (more_here spelled n p o up.0 up.1 c.args.self.now c.self.inside.counts.entries mid c.self.view_is c.args.more c.in_ok-raise.ensures.ok z) (rest z)) c.add_above-added.ensures.ok
