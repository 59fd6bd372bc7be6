use Rattle.std.proofs.Common.{Option, Some, sym, subst}
use Rattle.dns_name.specs.Labels.{Labels}
use Rattle.history.specs.Oldest.{IsOldest}
use Rattle.world_book.proofs.EndLaws.{current, none_in_past, oldest_in_past}
use Rattle.world_book.proofs.seen.oldest.Goals as goal

pub returns-in_ok-clone-in-Some : goal.returns-in_ok-clone-in-Some
returns-in_ok-clone-in-Some g c = λ bound past less tied.
    let by = g.C.World.World in
    let w = c.args.world.now in
    let changes = c.args.journal.now in
    let sound = c.undone-undone.ensures.sound in
    let first = c.in-Some.ensures.some changes.kept tied.stands.kept (current by w changes bound past sound tied) in
    subst (λ (name : Labels). IsOldest past c.args.clock (Some name)) (sym c.in_ok-clone-in-Some.ensures)
    (oldest_in_past by w changes bound past sound tied (λ chosen other. g.met.C.World.World.reads w changes.kept chosen other tied.stands.kept) c.args.clock less c.in-Some.name.now first)

pub returns-in-None : goal.returns-in-None
returns-in-None g c = λ bound past less tied.
    let by = g.C.World.World in
    let w = c.args.world.now in
    let changes = c.args.journal.now in
    let sound = c.undone-undone.ensures.sound in
    none_in_past by w changes bound past sound tied (λ chosen other. g.met.C.World.World.reads w changes.kept chosen other tied.stands.kept) c.args.clock less
    (c.in-None.ensures.none changes.kept tied.stands.kept (current by w changes bound past sound tied))
