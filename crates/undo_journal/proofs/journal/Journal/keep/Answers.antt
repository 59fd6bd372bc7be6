use Rattle.std.proofs.Common.{rules, arith, ◌≡◌, ◌≤◌, ◌<◌, ◌-◌, ◌++◌, ◌∷◌, [], List, length, take, sym, subst, ap, ◌∙◌}
use Rattle.circular_buffer.specs.Buffer.{Buffer, buffer}
use Rattle.change_law.specs.declared.kept.KeptChange.{KeptChange}
use Rattle.change_law.specs.declared.kept.Standing.TheVariants.{Done}
use Rattle.change_law.specs.Row.{kept_as}
use Rattle.undo_journal.specs.Journal.{Changes, AreChanges}
use Rattle.undo_journal.proofs.RowLaws.{kept_all, kept_are}
use Rattle.undo_journal.proofs.journal.Journal.keep.Goals as goal

pub invariant_of-self : goal.invariant_of-self
invariant_of-self g c =
    let j = c.self.inside in
    let table = g.C.World.World.table in
    let before : Changes _ = record { kept = j.ring.items; undone = j.undone.items; tickets = j.tickets; limit = j.ring.capacity } in
    let room : length j.ring.items < j.ring.capacity = subst (λ (x : Changes _). length x.kept < x.limit) (sym c.self.view_is) c.requires.room in
    let none : j.undone.items ≡ [] = subst (λ (x : Changes _). x.undone ≡ []) (sym c.self.view_is) c.requires.undone in
    let next : j.tickets < c.args.ticket = subst (λ (x : Changes _). x.tickets < c.args.ticket) (sym c.self.view_is) c.requires.next in
    let new = kept_as Done c.args.ticket c.args.saved in
    let pushed : c.push_back.new.self ≡ buffer (j.ring.items ++ new ∷ []) j.ring.capacity
    = c.push_back.ensures.items ∙ ap (λ (l : List (KeptChange _)). buffer l j.ring.capacity) (kept_all j.ring.items new j.ring.capacity room) in
    let are = kept_are table before c.args.ticket c.args.saved c.self.invariant.0 none room next in
    let there = subst (λ (b : Buffer (KeptChange _)). AreChanges table (record { kept = b.items; undone = []; tickets = c.args.ticket; limit = b.capacity })) (sym pushed) are in
    (rw none there, rw pushed c.self.invariant.1)
