use Rattle.std.proofs.Common.{◌+◌, take, arith}
use Rattle.std.proofs.lemmas.List.{length-take}
use Rattle.dns_wire.proofs.NameLaws.{found_gives, found_within, name_read_in-spelled, spelled_within}
use Rattle.dns_wire.proofs.read.name.name_in.Goals as goal

pub overflow_add-result : goal.overflow_add-result
overflow_add-result c = omega (arith, spelled_within c.in-Some.ensures, length-take c.args.limit c.args.message.now, c.requires.limit)

pub returns-in-Some-clause-exact : goal.returns-in-Some-clause-exact
returns-in-Some-clause-exact c =
    let m = c.args.message.now in
    let size = length-take c.args.limit m in
    rw c.in_ok-clone.ensures (name_read_in-spelled m (take c.args.limit m) c.args.ending c.args.at (c.args.at + 2) c.in-Some.name.now (omega (arith, size, c.requires.within, c.requires.limit)) (omega (arith, size)) c.in-Some.ensures)

pub returns-in-Some-clause-within : goal.returns-in-Some-clause-within
returns-in-Some-clause-within c = omega (arith, spelled_within c.in-Some.ensures, length-take c.args.limit c.args.message.now)

pub returns-clause-exact : goal.returns-clause-exact
returns-clause-exact c =
    let m = c.args.message.now in
    let size = length-take c.args.limit m in
    found_gives m (take c.args.limit m) c.args.ending c.args.at (omega (arith, size, c.requires.within, c.requires.limit)) (omega (arith, size)) _ c.follow_name.ensures.stands c.follow_name.ensures.name

pub returns-clause-within : goal.returns-clause-within
returns-clause-within c = found_within c.args.message.now c.args.limit c.args.ending c.args.at _ c.follow_name.ensures.stands
