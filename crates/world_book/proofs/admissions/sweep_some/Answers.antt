use Rattle.world_book.proofs.TiedLaws.{tied_unmoved}
use Rattle.world_book.proofs.admissions.sweep_some.Goals as goal

pub returns-clause-tied : goal.returns-clause-tied
returns-clause-tied g c = λ bound past is tied.
    tied_unmoved g.C.World.World
    c.args.world.now c.sweep_some.new.self c.args.journal.now bound c.args.clock past is (c.sweep_some.ensures.row c.args.journal.now.kept tied.stands.kept) tied
