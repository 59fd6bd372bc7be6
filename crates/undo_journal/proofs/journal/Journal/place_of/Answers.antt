use Rattle.std.proofs.Common.{rules, arith, ◌≡◌, ◌∙◌, Some, None, refl, sym, ap}
use Rattle.std.specs.Prelude.{slice_get}
use Rattle.std.specs.Option.{option_copied}
use Rattle.undo_journal.specs.Journal.{Changes}
use Rattle.dns_name.specs.ListLaws.{never_past}
use Rattle.undo_journal.proofs.ReachLaws.{absent_passed, place_here, place_passed}
use Rattle.undo_journal.proofs.journal.Journal.place_of.Goals as goal
use Rattle.undo_journal.proofs.journal.Journal.place_of.Goals.{in-Some+else-kept-ticket, in_default}

pub returns-then-kept-ticket-clause-some : goal.returns-then-kept-ticket-clause-some
returns-then-kept-ticket-clause-some g c =
    let k = c.in-Some.kept.now in
    let there : slice_get c.self.inside.ring.items c.loop-place.place ≡ Some k = sym c.get.ensures ∙ ap (λ o. option_copied o) c.in-Some.is in
    let here : slice_get c.args.self.now.kept c.loop-place.place ≡ Some k = ap (λ (x : Changes _). slice_get x.kept c.loop-place.place) (sym c.self.view_is) ∙ there in
    place_here g.C.World.World.table c.args.self.now.kept c.args.ticket c.loop-place.place k here c.loop-place.invariant.looked c.if-kept-ticket.true

pub loop-place-preserved : goal.loop-place-preserved
loop-place-preserved g c =
    elim c.match-get.branch [
      | in-Some+else-kept-ticket w ↦
          let k = w.in-Some.kept.now in
          let there : slice_get c.self.inside.ring.items c.loop-place.place ≡ Some k = sym c.get.ensures ∙ ap (λ o. option_copied o) w.in-Some.is in
          let here : slice_get c.args.self.now.kept c.loop-place.place ≡ Some k = ap (λ (x : Changes _). slice_get x.kept c.loop-place.place) (sym c.self.view_is) ∙ there in
          record {
            absent = absent_passed c.args.self.now.kept c.args.ticket c.loop-place.place k here w.if-kept-ticket.false c.loop-place.invariant.absent;
            looked = place_passed g.C.World.World.table c.args.self.now.kept c.args.ticket c.loop-place.place k here c.loop-place.invariant.looked w.if-kept-ticket.false;
          }
      | in_default w ↦
          absurd (never_past c.self.inside.ring.items c.loop-place.place (omega (arith, c.loop-place-test.true, c.len-place-end.ensures.len)) (sym c.get.ensures ∙ ap (λ o. option_copied o) w.in_default.is))
    ]
