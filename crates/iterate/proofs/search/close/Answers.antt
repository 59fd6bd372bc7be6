use Rattle.std.proofs.Common.{List, subst}
use Rattle.iterate.specs.declared.search.Nested.{Nested}
use Rattle.iterate.specs.Hunting.{AreSupplied}
use Rattle.iterate.proofs.Supplying.{closing, hunts_close}
use Rattle.iterate.proofs.search.close.Goals as goal

pub returns-clause-fewer : goal.returns-clause-fewer
returns-clause-fewer c =
    let after = c.in_ok-after.after in
    let i = subst (λ (fs : List Nested). AreSupplied fs c.args.search.base c.args.found.now c.in_ok-after.after.frames.items c.in_ok-after.after.base) c.remove.ensures.items c.in_ok-after.ensures.supplied in
    hunts_close c.args.search.frames.items c.in_ok-after.after.frames.items c.args.search.base c.in_ok-after.after.base c.args.found.now c.requires i

pub returns-clause-further : goal.returns-clause-further
returns-clause-further c = λ port question log turn s orderly serve.
    let i = subst (λ (fs : List Nested). AreSupplied fs c.args.search.base c.args.found.now c.in_ok-after.after.frames.items c.in_ok-after.after.base) c.remove.ensures.items c.in_ok-after.ensures.supplied in
    closing port question log c.args.search c.in_ok-after.after c.args.found.now c.requires c.in_ok-after.ensures.path i s turn orderly serve
