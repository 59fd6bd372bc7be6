use Rattle.std.proofs.Common.{◌≡◌, subst}
use Rattle.ranked.specs.Cell.{shown_at}
use Rattle.cell_store.specs.Owner.{held_now}
use Rattle.store.specs.World.{Shelved, shown_face}
use Rattle.store.proofs.world.ShelfWorld.show_both.Goals as goal

pub returns-clause-first : goal.returns-clause-first
returns-clause-first c = subst (λ (s : Shelved). held_now c.show_both.result.0 ≡ shown_at ((shown_face s).cell (record { owner = c.args.owner.now; kind = c.args.first })) c.args.moment) c.self.view_is c.show_both.ensures.first

pub returns-clause-second : goal.returns-clause-second
returns-clause-second c = subst (λ (s : Shelved). held_now c.show_both.result.1 ≡ shown_at ((shown_face s).cell (record { owner = c.args.owner.now; kind = c.args.second })) c.args.moment) c.self.view_is c.show_both.ensures.second
