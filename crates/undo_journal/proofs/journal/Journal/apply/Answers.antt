use Rattle.std.proofs.Common.{rules, arith, ◌≡◌, ◌≤◌, ◌<◌, ◌-◌, ◌+◌, ◌++◌, ◌∷◌, [], List, length, take, drop, refl, sym, subst, ap, ◌∙◌}
use Rattle.change_law.specs.declared.kept.KeptChange.{KeptChange}
use Rattle.change_law.specs.Choice.{cleared, IsPresent}
use Rattle.change_law.specs.Effect.{effect}
use Rattle.change_law.specs.Row.{IsRowAfter, same_face, where_chosen}
use Rattle.undo_journal.specs.Journal.{Changes, in_effect, out_of_effect}
use Rattle.undo_journal.proofs.AppliedLaws.{applied_changes, applied_whole, applied_choices, applied_needs, applied_told, is_next}
use Rattle.undo_journal.proofs.journal.Journal.apply.Goals as goal

pub returns-clause-ticket : goal.returns-clause-ticket
returns-clause-ticket g c =
    let j = c.self.inside in
    let before : Changes g.row.C-World-Saved.Denot = record { kept = j.ring.items; undone = j.undone.items; tickets = j.tickets; limit = j.ring.capacity } in
    let table = g.C.World.World.table in
    let shrunk = subst (λ (x : Changes g.row.C-World-Saved.Denot). c.clear.new.self ≡ record { kept = in_effect x.kept; undone = []; tickets = x.tickets; limit = x.limit }) (sym c.self.view_is) c.clear.ensures.kept in
    let kept = ap (λ (x : Changes g.row.C-World-Saved.Denot). x.kept) c.keep.ensures in
    rw (← c.self.view_is) ((
      applied_changes table before c.self.invariant.0 c.in_ok-saved.saved c.clear.new.self c.forget.new.self c.keep.new.self shrunk c.forget.ensures.kept c.keep.ensures,
      applied_told table before c.self.invariant.0 c.in_ok-saved.saved g.C.World.World.told (g.C.Change.told c.args.change) c.in_ok-saved.ensures.kind.1 c.clear.new.self c.forget.new.self c.keep.new.self shrunk c.forget.ensures.kept kept,
      applied_told table before c.self.invariant.0 c.in_ok-saved.saved table (g.C.Change.table c.args.change) c.in_ok-saved.ensures.kind.0 c.clear.new.self c.forget.new.self c.keep.new.self shrunk c.forget.ensures.kept kept,
      applied_needs table before c.self.invariant.0 c.in_ok-saved.saved g.C.World.World.needs_memory g.C.World.World.needs_memory_after (g.C.Change.removes c.args.change (g.C.World.World.shown c.args.world.now).tables)
          c.in_ok-saved.ensures.frees c.clear.new.self c.forget.new.self c.keep.new.self shrunk c.forget.ensures.kept kept,
    ))

pub returns-clause-row : goal.returns-clause-row
returns-clause-row g c =
    let j = c.self.inside in
    let before : Changes g.row.C-World-Saved.Denot = record { kept = j.ring.items; undone = j.undone.items; tickets = j.tickets; limit = j.ring.capacity } in
    let table = g.C.World.World.table in
    let keeps = g.C.World.World.keeps in
    let face = g.C.World.World.face in
    let made = where_chosen (j.tickets + 1) (effect (g.C.Change.after c.args.change) (g.C.Change.empties c.args.change)) in
    let shrunk = subst (λ (x : Changes g.row.C-World-Saved.Denot). c.clear.new.self ≡ record { kept = in_effect x.kept; undone = []; tickets = x.tickets; limit = x.limit }) (sym c.self.view_is) c.clear.ensures.kept in
    let kept = subst (λ (x : Changes g.row.C-World-Saved.Denot). keeps c.args.world.now x.kept) (sym c.self.view_is) c.requires.keeps in
    let newest : g.C.World.World.newest c.args.world.now < j.tickets + 1
    = omega (arith, subst (λ (x : Changes g.row.C-World-Saved.Denot). g.C.World.World.newest c.args.world.now ≤ x.tickets) (sym c.self.view_is) c.requires.tickets.0) in
    let clear = subst (λ (x : Changes g.row.C-World-Saved.Denot). (tail : List (KeptChange g.row.C-World-Saved.Denot)) → keeps c.apply.new.world (cleared x.kept ++ tail) →
    IsRowAfter table keeps face same_face (IsPresent (out_of_effect x.kept)) c.apply.new.world (cleared x.kept ++ tail) c.clear.new.world (c.clear.new.self.kept ++ tail)) (sym c.self.view_is) c.clear.ensures.row in
    rw (← c.self.view_is) ((
      rw c.keep.ensures (applied_whole table before c.self.invariant.0 c.in_ok-saved.saved keeps face made c.args.world.now c.apply.new.world c.clear.new.world c.forget.new.world
          c.clear.new.self c.forget.new.self shrunk c.forget.ensures.kept
          (c.in_ok-saved.ensures.row before.kept kept (is_next table before c.self.invariant.0 c.in_ok-saved.saved) newest) clear c.forget.ensures.row),
      applied_choices table before c.self.invariant.0 c.in_ok-saved.saved c.clear.new.self c.forget.new.self c.keep.new.self shrunk c.forget.ensures.kept
          (ap (λ (x : Changes g.row.C-World-Saved.Denot). x.kept) c.keep.ensures),
    ))
