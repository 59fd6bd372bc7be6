use Rattle.std.proofs.lemmas.List.{map-id}
use Rattle.local_zone.proofs.other_set.OtherSet.same.Goals as goal

pub returns : goal.returns
returns c = map-id c.args.records.now
