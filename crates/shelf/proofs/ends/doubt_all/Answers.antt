use Rattle.std.proofs.Common.{refl, arith}
use Rattle.shelf.specs.declared.ends.Ends.{Ends}
use Rattle.shelf.proofs.EndLaws.{ends_mixed}
use Rattle.shelf.proofs.EvenLaws.{by_doubted}
use Rattle.shelf.proofs.ends.doubt_all.Goals as goal

pub returns-clause-ends : goal.returns-clause-ends
returns-clause-ends c = λ kept more is.
    let was = c.args.ends.now in
    let now : Ends = record { moments = was.moments; mixed = was.mixed; left = c.len-ends.result; lasts = was.lasts } in
    ends_mixed kept more c.args.owners.now.entries was now is (by_doubted was now is.flags refl refl (omega (arith, c.len-ends.ensures.len, is.size)) (refl, refl))
