use Rattle.std.proofs.Common.{◌≡◌, ℕ, ◌∙◌, ap, max}
use Rattle.history.specs.declared.tables.Tables.{Tables}
use Rattle.history.specs.History.{past_of}
use Rattle.world_book.proofs.TiedLaws.{tied_shows}
use Rattle.history.specs.Servers.{servers_by}
use Rattle.world_book.proofs.ReplyLaws.{servers_tell}
use Rattle.world_book.proofs.book.WorldBookBook.servers.Goals as goal

pub returns : goal.returns
returns g c = let j = c.self.inside in rw (← c.self.view_is) (λ h so.
    let past = past_of j.settings.journal h in
    let same = tied_shows g.C.World.World g.met.C.World.World.shows j.world j.journal j.settings.journal past c.undone-undone.ensures.sound so.tied in
    let is : c.max-clock.result ≡ max past.now c.args.moment = c.max-clock.ensures ∙ ap (λ (m : ℕ). max m c.args.moment) so.moment in
    let shown = g.C.World.CellSource.shows_at j.world c.max-clock.result in
    c.in_ok-found.ensures
    ∙ ap (λ (t : Tables). servers_by j.settings t.stubs shown c.args.name.now) c.tables-tables.ensures
    ∙ servers_tell j.settings past (g.C.World.World.shown j.world) c.args.moment c.max-clock.result shown c.args.name.now (g.met.C.World.BookWorld.as_shown j.world c.max-clock.result) is same)
