use Rattle.std.proofs.Common.{take, arith}
use Rattle.std.proofs.lemmas.List.{length-take}
use Rattle.dns_wire.proofs.NameLaws.{end_found, end_within}
use Rattle.dns_wire.proofs.read.name.name_end.Goals as goal

pub returns-clause-exact : goal.returns-clause-exact
returns-clause-exact c =
    let m = c.args.message.now in
    let size = length-take c.args.limit m in
    λ ending. end_found m (take c.args.limit m) ending c.args.at (omega (arith, size, c.requires.within, c.requires.limit)) (omega (arith, size)) _ c.follow_end.ensures

pub returns-clause-within : goal.returns-clause-within
returns-clause-within c = end_within c.args.message.now c.args.limit c.args.at _ c.follow_end.ensures
