use Rattle.std.proofs.Common.{◌≡◌, subst}
use Rattle.ranked.specs.Cell.{shown_at}
use Rattle.cell_store.specs.Owner.{held_now}
use Rattle.store.specs.World.{Shelved, shown_face}
use Rattle.store.proofs.world.ShelfWorld.show.Goals as goal

pub returns : goal.returns
returns c = subst (λ (s : Shelved). held_now c.show.result ≡ shown_at ((shown_face s).cell (record { owner = c.args.owner.now; kind = c.args.kind })) c.args.moment) c.self.view_is c.show.ensures.cell
