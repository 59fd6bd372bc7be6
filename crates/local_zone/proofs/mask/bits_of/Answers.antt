use Rattle.std.proofs.Common.{◌<◌, ◌/◌, ◌%◌, arith}
use Rattle.std.specs.Int.Bits.{bit_or}
use Rattle.std.proofs.lemmas.Nat.{one_shl}
use Rattle.local_zone.proofs.mask.bits_of.Goals as goal

pub returns : goal.returns
returns c =
    let first : c.args.tag % 64 < 64 = omega arith in
    let second : c.args.tag / 64 % 64 < 64 = omega arith in
    λ i. bit_or (one_shl (c.args.tag % 64) 64 first i) (one_shl (c.args.tag / 64 % 64) 64 second i)
