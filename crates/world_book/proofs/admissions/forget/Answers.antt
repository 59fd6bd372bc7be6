use Rattle.std.proofs.Common.{◌≤◌, max, arith}
use Rattle.world_book.proofs.EndLaws.{ends_in_face}
use Rattle.world_book.proofs.TiedLaws.{tied_forgot}
use Rattle.world_book.proofs.admissions.forget.Goals as goal

pub returns-clause-tied : goal.returns-clause-tied
returns-clause-tied g c = λ clock moment bound past is tied.
    tied_forgot g.C.World.World
    c.args.world.now c.forget.new.self c.args.journal.now bound moment c.args.owner.now past (c.forget.ensures.row c.args.journal.now.kept tied.stands.kept) tied

pub returns-clause-room : goal.returns-clause-room
returns-clause-room g c = λ moment bound past tied first.
    let less : past.now ≤ max past.now moment = omega arith in
    c.forget.ensures.fewer c.args.journal.now.kept (max past.now moment) first.end tied.stands.kept
    (ends_in_face g.C.World.World c.args.world.now c.args.journal.now bound past c.undone-undone.ensures.sound tied (max past.now moment) less c.args.owner.now first.end first.own.ending)
