use Rattle.std.proofs.Common.{length, arith}
use Rattle.std.proofs.Math.Seq.{take-length}
use Rattle.dns_wire.specs.declared.fault.WireFault.TheVariants.{Short}
use Rattle.dns_wire.proofs.NameLaws.{found_gives, found_within}
use Rattle.dns_wire.proofs.read.name.name_at.Goals as goal

pub returns-clause-exact : goal.returns-clause-exact
returns-clause-exact c =
    let m = c.args.message.now in
    found_gives m m Short c.args.at c.requires (omega arith) _ (rw (c.as_slice.ensures, take-length m) at c.follow_name.ensures.stands) c.follow_name.ensures.name

pub returns-clause-within : goal.returns-clause-within
returns-clause-within c =
    let m = c.args.message.now in
    found_within m (length m) Short c.args.at _ (rw c.as_slice.ensures at c.follow_name.ensures.stands)
