use Rattle.std.proofs.Common.{◌≡◌, ℕ, ◌+◌, None, ◌∙◌, sym, ap, subst}
use Rattle.change_law.specs.declared.fault.ChangeFault.{ChangeFault}
use Rattle.change_law.specs.Effect.{IsFaultFor}
use Rattle.history.specs.declared.event.Event.TheVariants.{Do}
use Rattle.history.specs.declared.event.Reply.TheVariants.{Done, Refused}
use Rattle.history.specs.Reply.{reply_to_command}
use Rattle.history.specs.History.{reason_of}
use Rattle.world_book.proofs.NeedLaws.{keeps_needs, made_needs, needs_still}
use Rattle.world_book.proofs.TiedLaws.{tied_made, tied_refused, tied_shows}
use Rattle.world_book.proofs.ReplyLaws.{accepted, refused}
use Rattle.world_book.proofs.obey_command.give.Goals as goal

pub returns-in-Ok-clause-told : goal.returns-in-Ok-clause-told
returns-in-Ok-clause-told g c = λ settings clock moment bound past is tied.
    let shown = (tied_shows g.C.World.World g.met.C.World.World.shows c.args.world.now c.args.journal.now bound past c.undone-undone.ensures.sound tied) in
    let none : reason_of past c.args.command ≡ None
    = accepted past (g.C.World.World.shown c.args.world.now) c.args.command (g.C.Change.reason c.in_ok-change.change) c.in_ok-change.ensures.reason shown c.in-Ok.ensures.reason in
    ap Done (c.in-Ok.ensures.ticket.0.next ∙ ap (λ (n : ℕ). n + 1) tied.tickets) ∙ ap (reply_to_command past.marks) (sym none)

pub returns-in-Ok-clause-tied : goal.returns-in-Ok-clause-tied
returns-in-Ok-clause-tied g c = λ clock moment bound past is tied.
    let shown = (tied_shows g.C.World.World g.met.C.World.World.shows c.args.world.now c.args.journal.now bound past c.undone-undone.ensures.sound tied) in
    let none : reason_of past c.args.command ≡ None
    = accepted past (g.C.World.World.shown c.args.world.now) c.args.command (g.C.Change.reason c.in_ok-change.change) c.in_ok-change.ensures.reason shown c.in-Ok.ensures.reason in
    let change = c.in_ok-change.change in
    tied_made g.C.World.World
    c.args.world.now c.apply.new.world c.args.journal.now c.apply.new.self bound moment c.args.command past c.in-Ok.ticket (g.C.Change.after change) (g.C.Change.empties change) (g.C.Change.told change) (g.C.Change.table change)
    c.in_ok-change.ensures.after c.in_ok-change.ensures.empties c.in_ok-change.ensures.told c.in_ok-change.ensures.table none
    c.undone-undone.ensures.sound c.in-Ok.ensures.ticket.0 c.in-Ok.ensures.row.0 c.in-Ok.ensures.row.1 c.in-Ok.ensures.ticket.1 c.in-Ok.ensures.ticket.2 tied

pub returns-in-Err-Refused-clause-told : goal.returns-in-Err-Refused-clause-told
returns-in-Err-Refused-clause-told g c = λ settings clock moment bound past is tied.
    let shown = (tied_shows g.C.World.World g.met.C.World.World.shows c.args.world.now c.args.journal.now bound past c.undone-undone.ensures.sound tied) in
    let why = refused past (g.C.World.World.shown c.args.world.now) c.args.command (g.C.Change.reason c.in_ok-change.change) c.in-Err-Refused.code c.in_ok-change.ensures.reason shown
    (subst (λ (f : ChangeFault). IsFaultFor (g.C.Change.reason c.in_ok-change.change (g.C.World.World.shown c.args.world.now).tables) f) c.in-Err-Refused.field-0-is c.in-Err-Refused.ensures.err) in
    ap Refused (c.reason_coded.ensures why.0 why.2) ∙ ap (reply_to_command past.marks) (sym why.1)

pub returns-in-Err-Refused-clause-tied : goal.returns-in-Err-Refused-clause-tied
returns-in-Err-Refused-clause-tied g c = λ clock moment bound past is tied.
    let shown = (tied_shows g.C.World.World g.met.C.World.World.shows c.args.world.now c.args.journal.now bound past c.undone-undone.ensures.sound tied) in
    let why = refused past (g.C.World.World.shown c.args.world.now) c.args.command (g.C.Change.reason c.in_ok-change.change) c.in-Err-Refused.code c.in_ok-change.ensures.reason shown
    (subst (λ (f : ChangeFault). IsFaultFor (g.C.Change.reason c.in_ok-change.change (g.C.World.World.shown c.args.world.now).tables) f) c.in-Err-Refused.field-0-is c.in-Err-Refused.ensures.err) in
    tied_refused g.C.World.World
    c.args.world.now c.apply.new.world c.args.journal.now c.apply.new.self bound moment c.args.command past why.0 why.1 c.in-Err-Refused.ensures.same.0.0 c.in-Err-Refused.ensures.same.1 tied

pub returns-in-Ok-clause-needs : goal.returns-in-Ok-clause-needs
returns-in-Ok-clause-needs g c = λ moment.
    let change = c.in_ok-change.change in
    made_needs g.C.World.World c.args.world.now c.args.journal.now c.apply.new.self moment c.args.command c.in-Ok.ticket (g.C.Change.removes change) c.in_ok-change.ensures.removes c.in-Ok.ensures.ticket.0.next
    (λ bound past tied.
    let shown = (tied_shows g.C.World.World g.met.C.World.World.shows c.args.world.now c.args.journal.now bound past c.undone-undone.ensures.sound tied) in
    (accepted past (g.C.World.World.shown c.args.world.now) c.args.command (g.C.Change.reason change) c.in_ok-change.ensures.reason shown c.in-Ok.ensures.reason, shown.tables))
    c.in-Ok.ensures.ticket.3

pub returns-in-Err-Refused-clause-needs : goal.returns-in-Err-Refused-clause-needs
returns-in-Err-Refused-clause-needs g c = λ moment.
    keeps_needs g.C.World.World (Do moment c.args.command) c.args.world.now c.args.journal.now c.apply.new.self
    (needs_still g.C.World.World.needs_memory g.C.World.World.needs_memory_after c.args.journal.now c.apply.new.self c.in-Err-Refused.ensures.same.1)
