use Rattle.std.proofs.Common.{arith, ◌≡◌, ◌∙◌, Some, sym, ap}
use Rattle.std.specs.Prelude.{slice_get}
use Rattle.std.specs.Option.{option_copied}
use Rattle.undo_journal.specs.Journal.{Changes, lies_in_way}
use Rattle.dns_name.specs.ListLaws.{never_past}
use Rattle.undo_journal.proofs.ReachLaws.{found_here, found_passed}
use Rattle.undo_journal.proofs.journal.Journal.in_way.Goals as goal
use Rattle.undo_journal.proofs.journal.Journal.in_way.Goals.{in-Some+then-lies_in_way, in-Some+else-lies_in_way, in_default}

pub loop-place-preserved : goal.loop-place-preserved
loop-place-preserved g c =
    let place = c.loop-place.place in
    let from = c.args.from in
    let lies = lies_in_way g.C.World.World.table from c.args.ticket c.args.table in
    elim c.match-get.branch [
      | in-Some+then-lies_in_way w ↦
          let there : slice_get c.args.self.now.kept place ≡ Some w.in-Some.kept.now
          = ap (λ (x : Changes _). slice_get x.kept place) (sym c.self.view_is) ∙ (sym c.get.ensures ∙ ap (λ o. option_copied o) w.in-Some.is) in
          found_here lies c.args.self.now.kept place w.in-Some.kept.now there from c.loop-place.found c.match-get.found (sym w.lies_in_way.ensures ∙ w.if-lies_in_way.true) c.loop-place.invariant
          (w.found-is ∙ w.farther-found.ensures)
      | in-Some+else-lies_in_way w ↦
          let there : slice_get c.args.self.now.kept place ≡ Some w.in-Some.kept.now
          = ap (λ (x : Changes _). slice_get x.kept place) (sym c.self.view_is) ∙ (sym c.get.ensures ∙ ap (λ o. option_copied o) w.in-Some.is) in
          found_passed lies c.args.self.now.kept place w.in-Some.kept.now there from c.loop-place.found c.match-get.found (sym w.lies_in_way.ensures ∙ w.if-lies_in_way.false) c.loop-place.invariant w.found-is
      | in_default w ↦
          absurd (never_past c.self.inside.ring.items place (omega (arith, c.loop-place-test.true, c.len-place-end.ensures.len)) (sym c.get.ensures ∙ ap (λ o. option_copied o) w.in_default.is))
    ]
