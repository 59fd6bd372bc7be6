use Rattle.std.proofs.Common.{◌<◌, List, length, sym, ap, ◌∙◌, subst, slice_set}
use Rattle.std.proofs.lemmas.List.Edits.{map_over_more}
use Rattle.undo_book.specs.declared.log.Logged.{Logged}
use Rattle.undo_book.specs.Plain.{with_flag}
use Rattle.undo_book.proofs.log.flag_entry.Goals as goal

pub loop-logged-preserved : goal.loop-logged-preserved
loop-logged-preserved c =
    let log = c.args.log.now.items in
    let i = c.loop-logged.logged-index in
    let within = subst (λ (l : List Logged). i < length l) c.deref_mut-logged-items.ensures.value c.loop-logged-test.true in
    ap (λ (l : Logged). slice_set c.loop-logged.logged-items i l) (c.set_flag.ensures ∙ ap (with_flag c.args.ticket c.args.struck) (sym c.logged-item.is))
    ∙ map_over_more (with_flag c.args.ticket c.args.struck) log _ _ _ within c.loop-logged.invariant c.logged-item.is
