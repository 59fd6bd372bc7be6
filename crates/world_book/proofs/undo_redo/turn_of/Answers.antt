use Rattle.std.proofs.Common.{◌∙◌, sym}
use Rattle.std.proofs.lemmas.Bool.{false≢true}
use Rattle.world_book.proofs.NeedLaws.{turn_of_is_free}
use Rattle.world_book.proofs.TiedLaws.{tied_turn_of}
use Rattle.world_book.proofs.WayLaws.{turn_of_reply, turn_of_told}
use Rattle.world_book.proofs.undo_redo.turn_of.Goals as goal

pub returns-clause-told : goal.returns-clause-told
returns-clause-told g c = λ settings clock moment bound past is tied.
    c.turn_told.ensures ∙ turn_of_told g.C.World.World.table g.C.World.World.told c.args.from c.args.journal.now c.turn_of.new.self past c.args.ticket c.in_ok-outcome.outcome
    c.undone-undone.ensures.sound tied.done tied.undone tied.given tied.tables c.in_ok-outcome.ensures.outcome
    ∙ sym (turn_of_reply c.args.from c.requires.live settings past moment c.args.ticket)

pub returns-clause-tied : goal.returns-clause-tied
returns-clause-tied g c = λ clock moment bound past is tied.
    tied_turn_of g.C.World.World c.args.from c.requires.live
    c.args.world.now c.turn_of.new.world c.args.journal.now c.turn_of.new.self bound moment past c.args.ticket c.in_ok-outcome.outcome
    c.undone-undone.ensures.sound c.in_ok-outcome.ensures.outcome c.in_ok-outcome.ensures.moved tied

pub returns-in_err-outcome-clause-free : goal.returns-in_err-outcome-clause-free
returns-in_err-outcome-clause-free g c = λ moment free.
    absurd (false≢true (c.in_err-outcome.ensures.free (turn_of_is_free g.C.World.World.needs_memory c.args.from c.args.journal.now moment c.args.ticket free)))
