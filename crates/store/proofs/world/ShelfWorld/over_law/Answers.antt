use Rattle.std.proofs.Common.{ap}
use Rattle.change_law.specs.Choice.{turned}
use Rattle.ranked.specs.Cell.{shown_at}
use Rattle.store.specs.World.{shelved, cell_at}
use Rattle.store.specs.WorldLaws.{other_done, version_over}
use Rattle.store.proofs.world.ShelfWorld.over_law.Goals as goal

pub returns : goal.returns
returns c =
    let shelf = shelved c.self.inside.shelf in
    let up = c.self.invariant.ascending in
    λ moment q. rw (← c.self.view_is) (λ from earlier ticket later at chosen present.
    ap (λ v. shown_at (cell_at shelf q v) moment)
    (version_over from (turned from) shelf earlier ticket c.args.saved.now later chosen q (other_done from at.live) up at.kept present))
