use Rattle.std.proofs.Common.{◌≡◌, ◌/◌, ◌%◌, ◌+◌, ◌*◌, ◌∷◌, [], ◌∙◌, ℕ, ap, arith}
use Rattle.plain_workers.specs.Spots.{spot_inside}
use Rattle.plain_workers.proofs.spot.Spot.behind_length.Goals as goal

spelled_by : (size high low : ℕ) → (size / 256) ∷ (size % 256) ∷ [] ≡ high ∷ low ∷ [] → size ≡ high * 256 + low
spelled_by size high low spelled =
    let upper : size / 256 ≡ high = cc in
    let lower : size % 256 ≡ low = cc in
    omega arith

pub returns : goal.returns
returns c =
    let size = spelled_by c.size_of.result c.args.high c.args.low c.size_of.ensures.spelled in
    c.inside.ensures ∙ ap (λ (left : ℕ). spot_inside left) size
