use Rattle.std.proofs.Common.{◌∙◌, ap}
use Rattle.history.specs.declared.tables.Tables.{Tables}
use Rattle.history.specs.History.{past_of}
use Rattle.world_book.proofs.TiedLaws.{tied_shows}
use Rattle.world_book.proofs.book.WorldBookBook.stubs.Goals as goal

pub returns : goal.returns
returns g c = let j = c.self.inside in rw (← c.self.view_is) (λ h so.
    let past = past_of j.settings.journal h in
    let same = tied_shows g.C.World.World g.met.C.World.World.shows j.world j.journal j.settings.journal past c.undone-undone.ensures.sound so.tied in
    ap (λ (t : Tables). t.stubs) (c.tables.ensures ∙ same.tables))
