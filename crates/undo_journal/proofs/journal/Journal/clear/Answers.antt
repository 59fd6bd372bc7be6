use Rattle.std.proofs.Common.{rules, arith, ◌≡◌, ◌≤◌, ◌++◌, [], List, length, refl, sym, subst, ap, ◌∙◌}
use Rattle.std.specs.Prelude.{vec_capacity}
use Rattle.std.proofs.lemmas.Bool.{eqb-true}
use Rattle.circular_buffer.specs.Buffer.{Buffer, buffer}
use Rattle.change_law.specs.declared.kept.KeptChange.{KeptChange}
use Rattle.change_law.specs.Choice.{cleared, IsPresent}
use Rattle.change_law.specs.Row.{IsRowAfter, same_face}
use Rattle.undo_journal.specs.Journal.{AreChanges, Changes, in_effect, out_of_effect}
use Rattle.undo_journal.proofs.ReachLaws.{none_long}
use Rattle.undo_journal.proofs.RowLaws.{all_in_effect, cleared_are, none_undone_done, nothing_cleared}
use Rattle.undo_journal.proofs.journal.Journal.clear.Goals as goal

pub invariant_of-self : goal.invariant_of-self
invariant_of-self g c =
    let j = c.self.inside in
    let table = g.C.World.World.table in
    let before : Changes _ = record { kept = j.ring.items; undone = j.undone.items; tickets = j.tickets; limit = j.ring.capacity } in
    let left = c.settle_undone.ensures.ring in
    let are = subst (λ (b : Buffer (KeptChange _)). AreChanges table (record { kept = b.items; undone = []; tickets = j.tickets; limit = b.capacity })) (sym left) (cleared_are table before c.self.invariant.0) in
    let room : c.settle_undone.new.ring.capacity ≤ vec_capacity c.clear.new.self = omega (arith, ap (λ (b : Buffer (KeptChange _)). b.capacity) left, c.clear.ensures.capacity, c.self.invariant.1) in
    (subst (λ (l : List _). AreChanges table (record { kept = c.settle_undone.new.ring.items; undone = l; tickets = j.tickets; limit = c.settle_undone.new.ring.capacity })) (sym c.clear.ensures.items) are, room)

pub returns-then-is_empty-clause-kept : goal.returns-then-is_empty-clause-kept
returns-then-is_empty-clause-kept g c =
    let j = c.self.inside in
    let none = none_long j.undone.items (omega (arith, j.undone.ok.0, eqb-true j.undone.len 0 (sym c.is_empty.ensures ∙ c.if-is_empty.true))) in
    let all = all_in_effect j.ring.items (none_undone_done j.ring.items j.undone.items none c.self.invariant.0.standings) in
    let same : record { kept = j.ring.items; undone = j.undone.items; tickets = j.tickets; limit = j.ring.capacity } ≡ record { kept = in_effect j.ring.items; undone = []; tickets = j.tickets; limit = j.ring.capacity }
    = λ i. record { kept = sym all i; undone = none i; tickets = j.tickets; limit = j.ring.capacity } in
    rw (← c.self.view_is) same

pub returns-then-is_empty-clause-row : goal.returns-then-is_empty-clause-row
returns-then-is_empty-clause-row g c =
    let j = c.self.inside in
    let none = none_long j.undone.items (omega (arith, j.undone.ok.0, eqb-true j.undone.len 0 (sym c.is_empty.ensures ∙ c.if-is_empty.true))) in
    let all_done = none_undone_done j.ring.items j.undone.items none c.self.invariant.0.standings in
    rw (← c.self.view_is) (λ tail h. nothing_cleared g.C.World.World.table g.C.World.World.keeps g.C.World.World.face c.args.world.now j.ring.items tail all_done h)
