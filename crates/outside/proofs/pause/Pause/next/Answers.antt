use Rattle.std.proofs.Common.{◌≡◌, ◌+◌, ◌-◌, ◌^◌, arith}
use Rattle.std.specs.Prelude.{min}
use Rattle.outside.specs.Silences.{next_millis}
use Rattle.outside.proofs.pause.Pause.next.Goals as goal

pub returns : goal.returns
returns c =
    let next = next_millis c.args.self.now.millis in
    let same : c.max-millis.result ≡ next = omega arith in
    let ends : c.saturating_add.result ≡ min (c.args.now + next) (2 ^ 64 - 1) = omega arith in
    λ i. record { millis = same i; until = ends i }
