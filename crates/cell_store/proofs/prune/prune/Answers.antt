use Rattle.std.proofs.Common.{◌<◌, length, ap, ◌∙◌, arith}
use Rattle.cell_store.proofs.Each.{refilled_set}
use Rattle.cell_store.proofs.PruneLaws.{prune_more, pruned_all, length_to}
use Rattle.cell_store.proofs.prune.prune.Goals as goal

pub returns : goal.returns
returns c = c.loop-place.invariant ∙ pruned_all c.args.numbers.now c.args.upto c.loop-place.place c.args.versions.now.items (omega (arith, ap length c.loop-place.invariant, length_to c.args.numbers.now c.args.upto c.loop-place.place c.args.versions.now.items))

pub loop-place-preserved : goal.loop-place-preserved
loop-place-preserved c =
    let versions = c.loop-place.versions.items in
    let low : c.loop-place.place < length c.args.versions.now.items = omega (arith, ap length c.loop-place.invariant, length_to c.args.numbers.now c.args.upto c.loop-place.place c.args.versions.now.items) in
    prune_more c.args.numbers.now c.args.upto c.loop-place.place c.args.versions.now.items versions c.deref.result.now _ c.kept_entry-entry.result low c.loop-place.invariant c.deref.ensures.0 c.kept_entry-entry.ensures
    (refilled_set versions c.deref_mut.result.now c.loop-place.place c.kept_entry-entry.result c.deref_mut.ensures.value)
