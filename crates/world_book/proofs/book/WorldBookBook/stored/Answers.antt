use Rattle.std.proofs.Common.{arith}
use Rattle.history.specs.History.{past_of}
use Rattle.world_book.proofs.VersionLaws.{all_alive}
use Rattle.world_book.proofs.book.WorldBookBook.stored.Goals as goal

pub returns-clause-least : goal.returns-clause-least
returns-clause-least g c = let j = c.self.inside in rw (← c.self.view_is) (λ h so pairs alive.
    let past = past_of j.settings.journal h in
    let least = c.stored.ensures.least j.journal.kept so.tied.stands.kept past.now pairs
    (all_alive g.C.World.World j.world j.journal j.settings.journal past c.undone-undone.ensures.sound so.tied pairs alive) in
    omega (arith, least, c.stored.ensures.stored))
