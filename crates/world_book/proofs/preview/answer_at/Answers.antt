use Rattle.std.proofs.Common.{sym}
use Rattle.world_book.proofs.OverLaws.{can_turn}
use Rattle.world_book.proofs.preview.answer_at.Goals as goal

pub answer_over-requires : goal.answer_over-requires
answer_over-requires g c =
    can_turn g.C.World.World.table g.C.World.World.keeps c.args.world.now c.args.journal.now.kept c.args.place c.in-Some.kept.now (sym c.in-Some.ensures) c.requires.keeps c.requires.turns
