use Rattle.std.proofs.Common.{◌-◌}
use Rattle.shelf.proofs.VisitLaws.{start, start_all}
use Rattle.shelf.proofs.sweep.sweep_all.Goals as goal

pub sweep_ended-requires-clause-underway : goal.sweep_ended-requires-clause-underway
sweep_ended-requires-clause-underway c = start c.args.kept.now c.args.moment c.args.owners.now c.args.ends.now c.args.stored.now c.requires.ready

pub sweep_ended-requires-2-clause-underway : goal.sweep_ended-requires-2-clause-underway
sweep_ended-requires-2-clause-underway c = start_all c.args.kept.now c.args.moment (c.args.moment - 1) c.args.owners.now c.args.ends.now c.end_all.new.ends c.args.stored.now c.requires.ready c.end_all.ensures

pub sweep_ended-requires-clause-top : goal.sweep_ended-requires-clause-top
sweep_ended-requires-clause-top c = c.requires.ready.top

pub sweep_ended-requires-2-clause-top : goal.sweep_ended-requires-2-clause-top
sweep_ended-requires-2-clause-top c = c.requires.ready.top
