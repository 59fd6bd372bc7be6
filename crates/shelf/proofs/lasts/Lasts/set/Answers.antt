use Rattle.std.proofs.Common.{refl}
use Rattle.std.specs.Vec.{with_item}
use Rattle.shelf.proofs.GapLaws.{set_right}
use Rattle.shelf.proofs.lasts.Lasts.set.Goals as goal

pub returns-clause-winners : goal.returns-clause-winners
returns-clause-winners c = λ is.
    let was = c.args.self.now in
    set_right was (record { ends = with_item was.ends c.args.place c.args.end; winners = c.mend.new.winners }) was.winners.items c.deref.result.now c.deref.ensures.value c.mend.ensures.size c.mend.ensures.within c.args.owners.now.entries c.args.place c.args.end is
    refl refl c.mend.ensures.right
