use Rattle.std.proofs.Common.{subst, sym}
use Rattle.local_zone.specs.Saved.{before_of, TakesBack}
use Rattle.local_zone.specs.Tables.{Tables}
use Rattle.local_zone.proofs.table.ZoneTable.answer_over.Goals as goal

pub invariant_of-side : goal.invariant_of-side
invariant_of-side c =
    let saved = c.args.saved.now in
    record {
      back = subst (λ (t : Tables). TakesBack saved t (before_of saved t)) (sym c.self.view_is)
          (subst (λ (t : Tables). TakesBack saved c.args.self.now t) (sym c.requires.1.gives) c.requires.1);
      sound = c.self.invariant.0;
      counts = c.self.invariant.1;
    }
