use Rattle.std.proofs.Common.{refl}
use Rattle.local_zone.proofs.GapLaws.{goes_out}
use Rattle.local_zone.proofs.records.take_gaps.Goals as goal

pub returns-clause-saved : goal.returns-clause-saved
returns-clause-saved c =
    let way = goes_out c.args.gaps.now c.args.records.now c.take_out.new.records c.in_ok-removed.removed c.requires.within c.requires.apart c.in_ok-removed.ensures.ok c.in_ok-removed.ensures.removed in
    record { goes = way.0; gives = way.1; takes = refl }
