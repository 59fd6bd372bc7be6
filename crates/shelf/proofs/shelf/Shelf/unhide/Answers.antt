use Rattle.std.proofs.Common.{true, refl}
use Rattle.shelf.proofs.TurningLaws.{flush_turned, turned_whole}
use Rattle.shelf.proofs.shelf.Shelf.unhide.Goals as goal

pub returns-clause-turns : goal.returns-clause-turns
returns-clause-turns c = flush_turned c.args.number true c.args.self.now (record c.args.self.now { kept = c.set_shown.new.kept }) refl c.set_shown.ensures

pub returns-clause-whole : goal.returns-clause-whole
returns-clause-whole c = turned_whole c.args.number true c.args.self.now (record c.args.self.now { kept = c.set_shown.new.kept }) refl c.set_shown.ensures
