use Rattle.world_book.proofs.TiedLaws.{tied_swept_at}
use Rattle.world_book.proofs.admissions.sweep.Goals as goal

pub returns-clause-tied : goal.returns-clause-tied
returns-clause-tied g c = λ moment bound past is tied.
    tied_swept_at g.C.World.World
    c.args.world.now c.sweep.new.self c.args.journal.now bound moment c.args.clock past is (c.sweep.ensures.row c.args.journal.now.kept tied.stands.kept) tied
