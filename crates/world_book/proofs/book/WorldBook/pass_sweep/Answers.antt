use Rattle.std.proofs.Common.{◌≡◌, ℕ, ◌<◌, ◌∙◌, ap, max, arith, refl}
use Rattle.history.specs.declared.event.Event.{Event}
use Rattle.history.specs.declared.event.Event.TheVariants.{Sweep}
use Rattle.history.specs.declared.limits.TheConstants.{MOMENT_END, MOST_EVENTS}
use Rattle.world_book.specs.Book.{BookState}
use Rattle.world_book.proofs.BookLaws.{count_ended, passed, too_late}
use Rattle.world_book.proofs.book.WorldBook.pass_sweep.Goals as goal

pub returns-then-moment-ge-MOMENT_END-clause-passed : goal.returns-then-moment-ge-MOMENT_END-clause-passed
returns-then-moment-ge-MOMENT_END-clause-passed g c = too_late g.C.World.World c.args.self.now (Sweep c.args.moment) (omega (arith, c.if-moment-ge-MOMENT_END.true))

pub returns-then-self-ge-MOST_EVENTS-clause-passed : goal.returns-then-self-ge-MOST_EVENTS-clause-passed
returns-then-self-ge-MOST_EVENTS-clause-passed g c =
    let j = c.self.inside in
    let book : BookState g.row.C-World.Denot g.row.C-World-Saved.Denot = record { world = j.world; changes = j.journal; settings = j.settings; moment = j.moment; count = j.count } in
    rw (← c.self.view_is) (count_ended g.C.World.World book (Sweep c.args.moment) (omega (arith, c.if-moment-ge-MOMENT_END.false)) (omega (arith, c.if-self-ge-MOST_EVENTS.true)))

pub returns-clause-passed : goal.returns-clause-passed
returns-clause-passed g c =
    let j = c.self.inside in
    let book : BookState g.row.C-World.Denot g.row.C-World-Saved.Denot = record { world = j.world; changes = j.journal; settings = j.settings; moment = j.moment; count = j.count } in
    let event : Event = Sweep c.args.moment in
    let timely : c.args.moment < MOMENT_END = omega (arith, c.if-moment-ge-MOMENT_END.false) in
    let counted : j.count < MOST_EVENTS = omega (arith, c.if-self-ge-MOST_EVENTS.false) in
    rw (← c.self.view_is) (passed g.C.World.World book c.sweep_unread.new.world c.max-clock.result event tt c.max-clock.ensures timely counted
    (c.sweep_unread.ensures.tied c.args.moment) (omega (arith, c.sweep_unread.ensures.sound.stored)) c.sweep_unread.ensures.sound.limit c.sweep_unread.ensures.sound.pairs tt)

pub returns-clause-short : goal.returns-clause-short
returns-clause-short g c =
    let j = c.self.inside in
    let later = g.met.C.World.World.later j.world j.moment c.max-clock.result (omega (arith, c.max-clock.ensures)) in
    let early : c.max-clock.result < MOMENT_END = omega (arith, c.max-clock.ensures, c.self.invariant.early, c.if-moment-ge-MOMENT_END.false) in
    rw (← c.self.view_is) (omega (arith, later, c.sweep_unread.ensures.short (omega (arith, early))))
