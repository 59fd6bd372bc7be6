use Rattle.std.proofs.Common.{ap, sym, ◌∙◌, get_or, cond}
use Rattle.dns_text.specs.declared.record.Record.{Record}
use Rattle.local_zone.specs.Change.{retimed_by}
use Rattle.local_zone.proofs.RetimeLaws.{so_far-more}
use Rattle.local_zone.proofs.record.retime_each.Goals as goal
use Rattle.local_zone.proofs.record.retime_each.Goals.{then-is_of_tagged_set, else-is_of_tagged_set}

pub loop-i-preserved : goal.loop-i-preserved
loop-i-preserved c =
    let new : Record = record c.args.set.now { ttl = c.args.ttl } in
    let x : Record = get_or c.loop-i.records c.loop-i.i c.index-records-i.result in
    elim c.if-is_of_tagged_set.branch [
      | then-is_of_tagged_set w ↦
          so_far-more (retimed_by new) c.args.records.now c.loop-i.records c.if-is_of_tagged_set.records c.loop-i.i c.index-records-i.result w.set_ttl.new.self c.loop-i.invariant c.loop-i-test.true w.records-is
          (w.set_ttl.ensures ∙ ap (λ b. cond b (record x { ttl = c.args.ttl }) x) (sym w.if-is_of_tagged_set.true ∙ c.is_of_tagged_set.ensures))
      | else-is_of_tagged_set w ↦
          so_far-more (retimed_by new) c.args.records.now c.loop-i.records c.if-is_of_tagged_set.records c.loop-i.i c.index-records-i.result x c.loop-i.invariant c.loop-i-test.true w.records-is
          (ap (λ b. cond b (record x { ttl = c.args.ttl }) x) (sym w.if-is_of_tagged_set.false ∙ c.is_of_tagged_set.ensures))
    ]
