use Rattle.std.proofs.Common.{◌∙◌, ap}
use Rattle.world_book.specs.Step.{reply_of_fate}
use Rattle.world_book.proofs.TiedLaws.{tied_came_at, tied_shows}
use Rattle.world_book.proofs.ReplyLaws.{fate_tells}
use Rattle.world_book.proofs.admissions.admit.Goals as goal

pub returns-in-Ok-clause-told : goal.returns-in-Ok-clause-told
returns-in-Ok-clause-told g c = λ settings moment bound past is tied.
    c.reply_of_fate.ensures ∙ ap reply_of_fate c.in-Ok.ensures.told
    ∙ fate_tells past (g.C.World.World.shown c.args.world.now) c.args.find moment c.args.clock c.args.find.scope is
    (tied_shows g.C.World.World g.met.C.World.World.shows c.args.world.now c.args.journal.now bound past c.undone-undone.ensures.sound tied)

pub returns-in-Ok-clause-tied : goal.returns-in-Ok-clause-tied
returns-in-Ok-clause-tied g c = λ moment bound past is tied.
    tied_came_at g.C.World.World
    c.args.world.now c.admit.new.self c.args.journal.now bound moment c.args.clock c.args.find past is (c.in-Ok.ensures.row c.args.journal.now.kept tied.stands.kept) tied
