use Rattle.std.proofs.Common.{arith}
use Rattle.shelf.specs.Stored.{pairs_in}
use Rattle.shelf.proofs.AboutLaws.{face_least, replay_least}
use Rattle.shelf.proofs.StoredLaws.{stored_most}
use Rattle.shelf.proofs.shelf.Shelf.stored.Goals as goal

pub returns-clause-limit : goal.returns-clause-limit
returns-clause-limit c = λ whole. whole.few

pub returns-clause-most : goal.returns-clause-most
returns-clause-most c = λ whole told each.
    let self = c.args.self.now in
    omega (arith, stored_most self.owners self.top c.len.ensures.unique whole.upto (pairs_in told) each, whole.counted)

pub returns-clause-least : goal.returns-clause-least
returns-clause-least c = λ whole t pairs all. face_least c.args.self.now whole t pairs all

pub returns-clause-replayed : goal.returns-clause-replayed
returns-clause-replayed c = λ whole told of t pairs all. replay_least c.args.self.now whole told of t pairs all
