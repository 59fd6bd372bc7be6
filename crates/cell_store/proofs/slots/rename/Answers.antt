use Rattle.std.proofs.Common.{ℕ, ◌<◌, length, subst, ◌≡◌, List}
use Rattle.cell_store.specs.Slots.{renamed}
use Rattle.cell_store.specs.declared.version.Version.{Version}
use Rattle.cell_store.proofs.Each.{each_more}
use Rattle.cell_store.proofs.slots.rename.Goals as goal

pub loop-entry-preserved : goal.loop-entry-preserved
loop-entry-preserved c =
    let value = c.deref_mut-entry-items.ensures.value in
    let within = subst (λ (l : List (Version ℕ)). c.loop-entry.entry-index < length l) value c.loop-entry-test.true in
    let same = subst (λ (l : List (Version ℕ)). length c.loop-entry.entry-items ≡ length l) value c.loop-entry.auto.entry-items in
    each_more (renamed c.args.old c.args.new) c.args.versions.now.items c.loop-entry.entry-items c.loop-entry.entry-index _ c.rename.new.self
    within same c.loop-entry.invariant c.rename.ensures
