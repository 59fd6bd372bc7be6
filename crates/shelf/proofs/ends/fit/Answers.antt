use Rattle.std.proofs.Common.{◌≡◌, ◌-◌, length, refl, arith}
use Rattle.std.specs.Prelude.{vec_len}
use Rattle.shelf.proofs.EvenLaws.{by_fit, by_fit_same}
use Rattle.shelf.proofs.ends.fit.Goals as goal

pub returns-then-len-clause-ends : goal.returns-then-len-clause-ends
returns-then-len-clause-ends c =
    let was = c.args.ends.now in
    let fewer : vec_len was.mixed - 1 ≡ length was.moments - 1 = omega (arith, c.requires.flags, was.mixed.ok.0) in
    by_fit was (record { moments = c.pop.new.self; mixed = c.pop-then-len.new.self; left = was.left; lasts = was.lasts }) c.requires.flags (refl, refl) refl (length c.args.owners.now.entries) (vec_len was.mixed - 1) (omega arith) fewer c.pop.ensures c.pop-then-len.ensures.rest

pub returns-else-len-clause-ends : goal.returns-else-len-clause-ends
returns-else-len-clause-ends c = by_fit_same c.args.ends.now c.args.ends.now c.requires.flags (refl, refl) refl (length c.args.owners.now.entries) (omega arith)
