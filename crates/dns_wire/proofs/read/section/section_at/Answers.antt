use Rattle.std.proofs.Common.{sym, ◌∙◌}
use Rattle.std.proofs.lemmas.Result.{err_from_is_err_and}
use Rattle.dns_wire.proofs.SectionLoops.{section_more, section_fails, section_done}
use Rattle.dns_wire.proofs.read.section.section_at.Goals as goal

pub returns-in_err-item-clause-exact : goal.returns-in_err-item-clause-exact
returns-in_err-item-clause-exact g c =
    let p = err_from_is_err_and c.from_residual-in_err-item.result c.from_residual-in_err-item.ensures.1 in
    rw (p.1, p.2) (section_fails (λ i. g.T.SectionItem.read c.args.message.now i) c.loop.items.items c.args.count c.loop.counter c.loop.at _ _ c.loop-test.true c.in_err-item.ensures.exact c.loop.invariant.told)

pub loop-preserved : goal.loop-preserved
loop-preserved g c =
    record {
      told = rw c.in_ok-push.ensures.items (section_more (λ i. g.T.SectionItem.read c.args.message.now i) c.loop.items.items c.args.count c.loop.counter c.loop.at (c.in_ok-item.item, c.in_ok-item.after) c.loop-test.true c.in_ok-item.ensures.exact ∙ c.loop.invariant.told);
      within = c.in_ok-item.ensures.within;
    }

pub returns-clause-exact : goal.returns-clause-exact
returns-clause-exact g c = rw c.new.ensures (sym c.loop.invariant.told ∙ section_done (λ i. g.T.SectionItem.read c.args.message.now i) c.loop.items.items c.args.count c.loop.counter c.loop.at c.loop-test.false)
