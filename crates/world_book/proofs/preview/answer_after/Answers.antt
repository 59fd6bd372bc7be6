use Rattle.std.proofs.Common.{◌≡◌, ◌≤◌, ◌∙◌, ℕ, true, None, Some, List, refl, sym, ap, arith}
use Rattle.std.specs.Prelude.{option_map}
use Rattle.std.proofs.lemmas.Result.{IfOk-weaker}
use Rattle.change_law.specs.declared.kept.Standing.TheVariants.{Done, Undone}
use Rattle.history.specs.declared.event.Move.{Move}
use Rattle.history.specs.History.{is_unstruck}
use Rattle.history.specs.Journal.{commands_of, is_among, over}
use Rattle.history.specs.Marks.{last_of, restore, strike}
use Rattle.history.specs.PreviewLaws.{redo_shows, undo_of_buried, undo_of_shows, undo_shows}
use Rattle.history.specs.Reply.{answer_after, answer_by}
use Rattle.world_book.proofs.OverLaws.{done_lives, turn_tells, undone_lives}
use Rattle.world_book.proofs.WayLaws.{way_in_past}
use Rattle.world_book.proofs.preview.answer_after.Goals as goal

pub returns-in-Some : goal.returns-in-Some
returns-in-Some g c =
    IfOk-weaker c.answer_at.result _ _ (λ seen holds bound settled moment past is tied.
    let q = c.args.question.now in
    let can = c.in-Some.ensures.some.0 in
    let t = can.here.ticket in
    let last : last_of past.marks.done ≡ Some t
    = ap last_of (sym tied.done) ∙ (sym c.in-Some.ensures.some.1 ∙ ap (λ o. option_map (λ k. k.ticket) o) can.there) in
    let less : past.now ≤ c.args.clock = omega (arith, is) in
    undo_shows settled past moment q t seen last
    (turn_tells g.C.World.World c.args.world.now c.args.journal.now bound past c.undone-undone.ensures.sound tied q c.args.clock less seen Done done_lives c.in-Some.place t can refl holds
    ∙ ap (λ (m : ℕ). answer_by (is_unstruck (strike past.marks t)) past.log q m) is)
    ∙ sym (ap (λ (step : Move). answer_after settled past step q moment) c.in-Undo.is))
    c.answer_at.ensures

pub returns-in-Some-last_undone : goal.returns-in-Some-last_undone
returns-in-Some-last_undone g c =
    IfOk-weaker c.answer_at-in-Some-last_undone.result _ _ (λ seen holds bound settled moment past is tied.
    let q = c.args.question.now in
    let can = c.in-Some-last_undone.ensures.some.0 in
    let t = can.here.ticket in
    let last : last_of past.marks.undone ≡ Some t
    = ap last_of (sym tied.undone) ∙ (sym c.in-Some-last_undone.ensures.some.1 ∙ ap (λ o. option_map (λ k. k.ticket) o) can.there) in
    let less : past.now ≤ c.args.clock = omega (arith, is) in
    redo_shows settled past moment q t seen last
    (turn_tells g.C.World.World c.args.world.now c.args.journal.now bound past c.undone-undone.ensures.sound tied q c.args.clock less seen Undone undone_lives c.in-Some-last_undone.place t can refl holds
    ∙ ap (λ (m : ℕ). answer_by (is_unstruck (restore past.marks t)) past.log q m) is)
    ∙ sym (ap (λ (step : Move). answer_after settled past step q moment) c.in-Redo.is))
    c.answer_at-in-Some-last_undone.ensures

pub returns-in-At : goal.returns-in-At
returns-in-At g c =
    IfOk-weaker c.answer_at-in-At.result _ _ (λ seen holds bound settled moment past is tied.
    let q = c.args.question.now in
    let t = c.in-UndoOf.ticket in
    let reach = c.in-At.ensures in
    let can = reach.3 in
    let same : can.here ≡ reach.2.here = cc (can.there, reach.2.there) in
    let there : is_among past.marks.done t ≡ true = ap (λ (l : List ℕ). is_among l t) (sym tied.done) ∙ reach.0 in
    let none : over (commands_of past) t ≡ None
    = sym (way_in_past g.C.World.World.table g.C.World.World.told Done c.args.journal.now past t c.undone-undone.ensures.sound tied.done tied.undone tied.given tied.tables) ∙ reach.1 in
    let less : past.now ≤ c.args.clock = omega (arith, is) in
    undo_of_shows settled past moment q t seen there none
    (turn_tells g.C.World.World c.args.world.now c.args.journal.now bound past c.undone-undone.ensures.sound tied q c.args.clock less seen Done done_lives c.in-At.place t can
    (ap (λ k. k.ticket) same ∙ reach.2.own) holds
    ∙ ap (λ (m : ℕ). answer_by (is_unstruck (strike past.marks t)) past.log q m) is)
    ∙ sym (ap (λ (step : Move). answer_after settled past step q moment) c.in-UndoOf.is))
    c.answer_at-in-At.ensures

pub returns-in-Buried : goal.returns-in-Buried
returns-in-Buried g c = λ bound settled moment past is tied.
    let q = c.args.question.now in
    let t = c.in-UndoOf.ticket in
    let reach = c.in-Buried.ensures in
    let there : is_among past.marks.done t ≡ true = ap (λ (l : List ℕ). is_among l t) (sym tied.done) ∙ reach.0 in
    let by : over (commands_of past) t ≡ Some c.in-Buried.ticket
    = sym (way_in_past g.C.World.World.table g.C.World.World.told Done c.args.journal.now past t c.undone-undone.ensures.sound tied.done tied.undone tied.given tied.tables) ∙ reach.1 in
    undo_of_buried settled past moment q t c.in-Buried.ticket there by ∙ sym (ap (λ (step : Move). answer_after settled past step q moment) c.in-UndoOf.is)
