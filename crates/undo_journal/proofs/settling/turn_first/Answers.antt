use Rattle.std.proofs.Common.{◌≡◌, ◌≤◌, ◌∙◌, length, refl, sym, ap, arith}
use Rattle.std.specs.Option.{option_copied}
use Rattle.undo_journal.proofs.RowLaws.{turns_done, turns_gone}
use Rattle.undo_journal.proofs.settling.turn_first.Goals as goal

pub returns-then-is_done-clause-turned : goal.returns-then-is_done-clause-turned
returns-then-is_done-clause-turned g c =
    let within : length c.args.ring.now.items ≤ c.args.ring.now.capacity = omega (arith, c.len-len.ensures.len, c.len-len.ensures.within.0) in
    turns_done g.C.World.World.table g.C.World.World.keeps g.C.World.World.face c.args.world.now c.args.ring.now c.in-Some.first (sym c.pop_front.ensures.value ∙ c.in-Some.is) c.pop_front.new.self c.pop_front.ensures.items
    c.push_back.new.self c.push_back.ensures.items within (sym c.is_done.ensures ∙ c.if-is_done.true)

pub returns-in-Some-clause-turned : goal.returns-in-Some-clause-turned
returns-in-Some-clause-turned g c =
    turns_gone g.C.World.World.table g.C.World.World.keeps g.C.World.World.face c.args.world.now c.args.ring.now c.in-Some.first (sym c.pop_front.ensures.value ∙ c.in-Some.is) c.pop_front.new.self c.pop_front.ensures.items
    c.settle.new.world (sym c.is_done.ensures ∙ c.if-is_done.false) c.settle.ensures.cleared
