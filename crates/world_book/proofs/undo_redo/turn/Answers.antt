use Rattle.std.proofs.Common.{◌∙◌, sym, ap}
use Rattle.std.proofs.lemmas.Bool.{false≢true}
use Rattle.world_book.specs.Turned.{reply_to_turn}
use Rattle.world_book.proofs.NeedLaws.{turn_is_free}
use Rattle.world_book.proofs.TiedLaws.{tied_turn, turn_reaches}
use Rattle.world_book.proofs.WayLaws.{turn_reply}
use Rattle.world_book.proofs.undo_redo.turn.Goals as goal

pub returns-clause-told : goal.returns-clause-told
returns-clause-told g c = λ settings clock moment bound past is tied.
    c.reply_to_turn.ensures ∙ ap (reply_to_turn c.args.from) (sym (turn_reaches g.C.World.World c.args.from
    c.args.world.now c.args.journal.now c.turn.new.self bound past c.in_ok-ticket.ticket tied c.in_ok-ticket.ensures.ticket))
    ∙ sym (turn_reply c.args.from settings past moment)

pub returns-clause-tied : goal.returns-clause-tied
returns-clause-tied g c = λ clock moment bound past is tied.
    tied_turn g.C.World.World c.args.from c.requires.live
    c.args.world.now c.turn.new.world c.args.journal.now c.turn.new.self bound moment past c.in_ok-ticket.ticket
    c.undone-undone.ensures.sound c.in_ok-ticket.ensures.ticket c.in_ok-ticket.ensures.moved tied

pub returns-in_err-ticket-clause-free : goal.returns-in_err-ticket-clause-free
returns-in_err-ticket-clause-free g c = λ moment free.
    let is = turn_is_free g.C.World.World.needs_memory c.args.from c.args.journal.now moment free in
    absurd (false≢true (c.in_err-ticket.ensures.free is.0 is.1 is.2))
