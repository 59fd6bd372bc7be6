use Rattle.std.proofs.Common.{◌≡◌, ℕ, ◌∙◌, ap, max}
use Rattle.history.specs.History.{past_of}
use Rattle.world_book.proofs.TiedLaws.{tied_shows}
use Rattle.world_book.proofs.ReplyLaws.{answer_tells}
use Rattle.world_book.proofs.book.WorldBookBook.look.Goals as goal

pub returns : goal.returns
returns g c = let j = c.self.inside in rw (← c.self.view_is) (λ h so.
    let past = past_of j.settings.journal h in
    let same = tied_shows g.C.World.World g.met.C.World.World.shows j.world j.journal j.settings.journal past c.undone-undone.ensures.sound so.tied in
    let is : c.max-clock.result ≡ max past.now c.args.moment = c.max-clock.ensures ∙ ap (λ (m : ℕ). max m c.args.moment) so.moment in
    c.question_sight.ensures
    ∙ answer_tells j.settings past (g.C.World.World.shown j.world) c.tables.result.now c.args.moment c.max-clock.result (g.C.World.CellSource.shows_at j.world c.max-clock.result) c.args.question.now
    c.tables.ensures (g.met.C.World.BookWorld.as_shown j.world c.max-clock.result) is same)
