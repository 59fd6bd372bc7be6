use Rattle.std.proofs.Common.{refl, sym, subst, arith}
use Rattle.change_law.specs.declared.kept.Standing.{Standing}
use Rattle.undo_journal.specs.Journal.{CanBeTurned}
use Rattle.undo_journal.proofs.RingLaws.{at_place, on_err}
use Rattle.undo_journal.proofs.PlaceLaws.{can_turn, moved_here, refused_are, refused_here, turned_at, turned_sound, turns_then, undone_fit}
use Rattle.undo_journal.proofs.journal.Journal.turn_at.Goals as goal

pub turn-requires : goal.turn-requires
turn-requires g c =
    let j = c.self.inside in
    can_turn g.C.World.World j.ring.items j.undone.items j.tickets j.ring.capacity c.args.self.now c.self.view_is c.args.place c.in-Some.kept.now (sym c.in-Some.ensures.value)
    c.args.world.now c.args.from c.requires.live c.requires.keeps c.requires.turns

pub turn_undone-requires : goal.turn_undone-requires
turn_undone-requires g c = λ done.
    let j = c.self.inside in
    let k = c.in-Some.kept.now in
    let there = sym c.in-Some.ensures.value in
    let can = turns_then g.C.World.World j.ring.items j.undone.items j.tickets j.ring.capacity c.args.self.now c.self.view_is c.args.place k there c.args.from c.requires.turns in
    let undo = subst (λ (s : Standing). CanBeTurned g.C.World.World.table s j.ring.items c.args.place) done can in
    let fit = undone_fit g.C.World.World.table j.ring.items c.args.place k there (at_place _ _ k there) j.undone.items j.undone.items j.tickets j.ring.capacity k.saved refl c.self.invariant.0 undo in
    omega (arith, fit, c.self.invariant.1)

pub invariant_of-self-in-Some : goal.invariant_of-self-in-Some
invariant_of-self-in-Some g c =
    let j = c.self.inside in (
      rw c.turned-kept.ensures (turned_sound g.C.World.World j.ring.items j.undone.items j.tickets j.ring.capacity c.args.self.now c.self.view_is c.args.place c.in-Some.kept.now (sym c.in-Some.ensures.value) c.turn_undone.new.undone.items c.turn.new.saved
          c.args.from c.requires.live c.requires.turns c.in_ok-turn-in-Some.ensures.kind.0 c.self.invariant.0 c.turn_undone.ensures.undone),
      omega (arith, c.self.invariant.1, c.turn_undone.ensures.capacity),
    )

pub invariant_of-self : goal.invariant_of-self
invariant_of-self g c =
    let j = c.self.inside in
    (refused_are g.C.World.World j.ring.items j.undone.items j.tickets j.ring.capacity c.args.self.now c.self.view_is c.args.place c.in-Some.kept.now (sym c.in-Some.ensures.value) c.turn.new.saved c.in_err-turn-in-Some.ensures.err.1 c.self.invariant.0, c.self.invariant.1)

pub returns-in_err-turn-in-Some-clause-err : goal.returns-in_err-turn-in-Some-clause-err
returns-in_err-turn-in-Some-clause-err g c =
    let j = c.self.inside in
    on_err _ (refused_here g.C.World.World j.ring.items j.undone.items j.tickets j.ring.capacity c.args.self.now c.self.view_is c.args.place c.in-Some.kept.now (sym c.in-Some.ensures.value) c.args.world.now c.turn.new.world c.turn.new.saved c.in_err-turn-in-Some.ensures.err)

pub returns-clause-ticket : goal.returns-clause-ticket
returns-clause-ticket g c =
    let j = c.self.inside in
    rw c.turned-kept.ensures (turned_at g.C.World.World j.ring.items j.undone.items j.tickets j.ring.capacity c.args.self.now c.self.view_is c.args.place c.in-Some.kept.now (sym c.in-Some.ensures.value) c.turn_undone.new.undone.items c.turn.new.saved
    c.args.from c.requires.live c.requires.turns c.in_ok-turn-in-Some.ensures.kind.0 c.self.invariant.0 c.turn_undone.ensures.undone)

pub returns-clause-moved : goal.returns-clause-moved
returns-clause-moved g c =
    let j = c.self.inside in
    rw c.turned-kept.ensures (moved_here g.C.World.World j.ring.items j.undone.items j.tickets j.ring.capacity c.args.self.now c.self.view_is c.args.place c.in-Some.kept.now (sym c.in-Some.ensures.value) c.turn_undone.new.undone.items c.turn.new.saved
    c.args.from c.requires.live c.requires.turns c.args.world.now c.turn.new.world c.requires.keeps
    c.in_ok-turn-in-Some.ensures.kind c.in_ok-turn-in-Some.ensures.turned c.in_ok-turn-in-Some.ensures.row)
